-- What it is that some member has a property. Assumes nothing.
use Rattle.std.proofs.Common.{◌≡◌, ℕ, ◌<◌, ◌≤◌, Bool, true, ◌&&◌, get_or, Decides, arith}
use Rattle.std.specs.List.{range_with_len}
use Rattle.std.proofs.lemmas.List.FromFn.{length-range_with_len, get_or-range_with_len}
use Rattle.std.proofs.lemmas.Bool.{and_parts, and_from}
use Rattle.tables.specs.Tables.{Tables}
use Rattle.rules.specs.Rows.{replacements_in}
use Rattle.rules.proofs.Cells.{some_tells, some_counting}
use Rattle.sets.specs.Sets.{some_member}

-- replacement n is a member and has the property
pub record Member (t : Tables) (H p : ℕ → Bool) (n : ℕ) : Type 0 where
  pub least : 1 ≤ n
  pub most : n ≤ replacements_in t
  pub held : H n ≡ true
  pub has : p n ≡ true

pub member_tells : (t : Tables) (H p : ℕ → Bool) → Decides (some_member t H p) ((n : ℕ) × Member t H p n)
member_tells t H p = (
  λ e.
      let x = (some_tells (λ n. H n && p n) (range_with_len 1 (replacements_in t))).0 e in
      let n : ℕ = get_or (range_with_len 1 (replacements_in t)) x.0 0 in
      let lt : x.0 < replacements_in t = omega (arith, x.1, length-range_with_len 1 (replacements_in t)) in
      let is = get_or-range_with_len 1 (replacements_in t) x.0 0 lt in
      let both = and_parts (H n) (p n) (x.2 0) in
      (n, record { least = omega (arith, is); most = omega (arith, is); held = both.0; has = both.1 }),
  λ x. some_counting (λ n. H n && p n) 1 (replacements_in t) x.0 x.1.least (omega (arith, x.1.most)) (and_from (H x.0) (p x.0) x.1.held x.1.has),
)
