use Rattle.std.proofs.Common.{◌≡◌, ◌+◌, ◌*◌, ◌/◌, ◌^◌, ◌≤◌, length, nat_abs}
use Rattle.tables.specs.Judging.{Clear}
use Rattle.rules.specs.Raw.{lists_of}
use Rattle.rules.specs.Ranges.{before, EarlierKept}
use Rattle.rules.proofs.earlier.judge_earlier.Given as goal

abbrev pub invariant-loop-n : goal.invariant-loop-n
invariant-loop-n l = record {
  list : l.list ≡ before 1 l.tables.replacements.now (length l.yielded);
  first : l.first ≡ nat_abs l.tables.base + before 2 l.tables.replacements.now (length l.yielded);
  clear : Clear 1 (length l.yielded + 1) (EarlierKept (lists_of l.tables));
  inside : length l.yielded ≤ length l.tables.replacements.now / 3;
  list_fits : l.list ≤ 2 ^ 32 * length l.yielded;
  first_fits : l.first ≤ 2 ^ 32 * (length l.yielded + 1);
}
