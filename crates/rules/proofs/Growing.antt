-- Ranges, replacement by replacement. Assumes nothing.
use Rattle.std.proofs.Common.{◌≡◌, ℕ, ◌+◌, ◌-◌, List, take, drop, ℤ, nat_abs, sym, ap, ◌∙◌, subst, ⊎_elim, add-one, arith}
use Rattle.std.specs.List.{AllByRecursion}
use Rattle.std.proofs.lemmas.Bool.{cases_lt}
use Rattle.tables.specs.Judging.{Clear}
use Rattle.tables.specs.Tables.{Tables}
use Rattle.rules.specs.declared.record.Record.{Record}
use Rattle.rules.specs.Raw.{field}
use Rattle.rules.specs.Records.{record_at}
use Rattle.rules.specs.Ranges.{before, first_made, taken_by, EarlierKept}
use Rattle.rules.specs.Values.{Numbered}

-- one replacement more
pub before_next : (k : ℕ) (rs : List ℤ) (n : ℕ) → before k rs (n + 1) ≡ before k rs n + nat_abs (field rs n k)
before_next k rs n = ap (before k rs) (add-one n)

-- the numbers that a record takes are those of the replacement with that record
pub taken_here : (t : Tables) (m : ℕ) (r : Record) (list : ℕ) (xs : List ℤ) → r ≡ record_at t.replacements m → list ≡ before 1 t.replacements m → xs ≡ take (nat_abs r.takes) (drop list t.taken) → xs ≡ take (nat_abs (field t.replacements m 1)) (drop (before 1 t.replacements m) t.taken)
taken_here t m r list xs is from are = are ∙ (λ i. take (nat_abs ((is i).takes)) (drop (from i) t.taken))

-- what is tested at replacement n, which m come before, is the rule there
module _ (t : Tables) (n m : ℕ) (next : n ≡ m + 1) (first : ℕ) (xs : List ℤ) (from : first ≡ nat_abs t.base + before 2 t.replacements m) (are : xs ≡ take (nat_abs (field t.replacements m 1)) (drop (before 1 t.replacements m) t.taken)) where
  here : n - 1 ≡ m
  here = omega arith

  same_first : first ≡ first_made t n
  same_first = from ∙ ap (λ (k : ℕ). nat_abs t.base + before 2 t.replacements k) (sym here)

  same_taken : xs ≡ taken_by t n
  same_taken = are ∙ ap (λ (k : ℕ). take (nat_abs (field t.replacements k 1)) (drop (before 1 t.replacements k) t.taken)) (sym here)

  pub kept_here : AllByRecursion (Numbered first) xs → EarlierKept t n
  kept_here x = subst (λ (k : ℕ). AllByRecursion (Numbered k) (taken_by t n)) same_first (subst (AllByRecursion (Numbered first)) same_taken x)

  pub tested_here : EarlierKept t n → AllByRecursion (Numbered first) xs
  tested_here x = subst (AllByRecursion (Numbered first)) (sym same_taken) (subst (λ (k : ℕ). AllByRecursion (Numbered k) (taken_by t n)) (sym same_first) x)

pub clear_more : (K : ℕ → Type 0) (a n : ℕ) → Clear a n K → K n → Clear a (n + 1) K
clear_more K a n clear here q ge lt = ⊎_elim (λ l. clear q ge l) (λ g. let e : n ≡ q = omega arith in subst K e here) (cases_lt q n)
