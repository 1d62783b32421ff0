-- A text has at least as many tokens as entries, so no count exceeds its bytes. Assumes nothing.
use Rattle.std.proofs.Common.{◌≡◌, ℕ, ◌+◌, ◌<◌, ◌≤◌, List, [], ◌∷◌, ◌++◌, length, sym, ◌∙◌, add-zero, add_assoc, arith, length-append}
use Rattle.forms.specs.Form.{Token, symbol}
use Rattle.forms.specs.Array.{listed, among, parts, array, single, row_tokens}
use Rattle.scanner.specs.declared.Scanner.{Scanner}
use Rattle.arrays.specs.Sink.{put, puts, flat}
use Rattle.arrays.specs.Listing.{Kept, Several}
use Rattle.arrays.proofs.Lists.{puts-append, kept_as}
use Rattle.hierarchypass.specs.Line.{Replacement, replacement, replacement_tokens, Made, made_corners, record_of, records, all_taken, made_count, taken_count}
use Rattle.hierarchypass.specs.Passing.{Growth, growth, with_replacement, with_replacements, Replacements, ReplacementsKept}

among_long : {A : Type 0} (f : A → List Token) (xs : List A) → length xs ≤ length (among f xs)
among_long f [] = omega arith
among_long f (x ∷ xs) = omega (arith, among_long f xs, length-append (f x) (among f xs))

pub array_long : {A : Type 0} (f : A → List Token) → ((x : A) → 0 < length (f x)) → (xs : List A) → length xs ≤ length (array f xs)
array_long f some [] = omega arith
array_long f some (x ∷ xs) = omega (arith, some x, among_long f xs, length-append (f x) (among f xs), length-append (f x ++ among f xs) (symbol 93 ∷ []))

pub one_size : (r : Replacement) → length r.taken + length r.made ≤ length (replacement_tokens r)
one_size r =
    omega (
      arith,
      array_long single (λ z. omega arith) r.taken,
      array_long row_tokens (λ z. omega arith) r.made,
      length-append (array single r.taken) (symbol 44 ∷ (array row_tokens r.made ++ symbol 93 ∷ [])),
      length-append (array row_tokens r.made) (symbol 93 ∷ []),
    )

among_size : (rs : List Replacement) → taken_count rs + made_count rs ≤ length (among replacement_tokens rs)
among_size [] = omega arith
among_size (r ∷ rs) = omega (arith, one_size r, among_size rs, length-append (replacement_tokens r) (among replacement_tokens rs))

pub parts_size : (rs : List Replacement) → taken_count rs + made_count rs ≤ length (parts replacement_tokens rs)
parts_size [] = omega arith
parts_size (r ∷ rs) = omega (arith, one_size r, among_size rs, length-append (replacement_tokens r) (among replacement_tokens rs))

pub array_size : (rs : List Replacement) → taken_count rs + made_count rs ≤ length (array replacement_tokens rs)
array_size rs = omega (arith, parts_size rs, length-append (parts replacement_tokens rs) (symbol 93 ∷ []))

-- what is kept one by one, in one
pub replacements_are : (rs : List Replacement) (g : Growth) → puts with_replacement rs g ≡ with_replacements rs g
replacements_are [] g = λ i. growth g.corners g.replacements g.taken (sym (add-zero g.takes) i) (sym (add-zero g.makes) i)
replacements_are (r ∷ rs) g =
    replacements_are rs (with_replacement r g)
    ∙ (λ i. growth
    (sym (puts-append put (flat r.made) (made_corners rs) g.corners) i)
    (sym (puts-append put (record_of r) (records rs) g.replacements) i)
    (sym (puts-append put r.taken (all_taken rs) g.taken) i)
    (add_assoc g.takes (length r.taken) (taken_count rs) i)
    (add_assoc g.makes (length r.made) (made_count rs) i))

-- an array of replacements
pub replacements_kept : {k n : ℕ} {r s : Scanner} {before after : Growth} → Kept (Several (Made k) n) (array replacement_tokens) (puts with_replacement) (listed (replacement k)) r s before after → ReplacementsKept k n r s before after
replacements_kept {k} {n} x = kept_as (Replacements k n) with_replacements (λ y h. h) replacements_are x
