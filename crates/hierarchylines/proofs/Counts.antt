-- The rule of the counts on a hierarchy's tables says the same as on its contents. Assumes nothing.
use Rattle.std.proofs.Common.{◌≡◌, ℕ, zero, suc, ◌+◌, ◌*◌, ◌≤◌, List, [], ◌∷◌, ◌++◌, length, ℤ, pos, ◌+ℤ◌, ◌≤ℤ◌, sym, refl, ap, ◌∙◌, subst, add_comm, mul-zero, mul-suc, mul-add, arith, length-append}
use Rattle.std.specs.List.{AllByRecursion}
use Rattle.std.proofs.lemmas.Int.{ints}
use Rattle.arrays.specs.Sink.{flat}
use Rattle.arrays.specs.Listing.{Long}
use Rattle.tables.specs.Contents.{Fit}
use Rattle.tables.specs.Kind.{corners_of}
use Rattle.tables.specs.Tables.{Counted, NotNegative, total, counts_taken, counts_made}
use Rattle.tables.specs.declared.contents.Places.{Places}
use Rattle.hierarchypass.specs.Line.{Hierarchy, Replacement, Shaped, Made, made_corners, records, all_taken, made_count, taken_count, contents_of, tables_of}

flat_long : (n : ℕ) (x : List (List ℤ)) → AllByRecursion (Long n) x → length (flat x) ≡ n * length x
flat_long n [] h = sym (mul-zero n)
flat_long n (y ∷ x) h = length-append y (flat x) ∙ (λ i. h.0 i + flat_long n x h.1 i) ∙ add_comm n (n * length x) ∙ sym (mul-suc n (length x))

made_long : (n : ℕ) (rs : List Replacement) → AllByRecursion (Made n) rs → length (made_corners rs) ≡ n * made_count rs
made_long n [] h = sym (mul-zero n)
made_long n (r ∷ rs) h = length-append (flat r.made) (made_corners rs) ∙ (λ i. flat_long n r.made h.0 i + made_long n rs h.1 i) ∙ sym (mul-add n (length r.made) (made_count rs))

records_long : (rs : List Replacement) → length (records rs) ≡ 3 * length rs
records_long [] = refl
records_long (r ∷ rs) = omega (arith, records_long rs)

pub taken_long : (rs : List Replacement) → length (all_taken rs) ≡ taken_count rs
taken_long [] = refl
taken_long (r ∷ rs) = length-append r.taken (all_taken rs) ∙ ap (λ (k : ℕ). length r.taken + k) (taken_long rs)

-- the counts of the records
naturals_made : (rs : List Replacement) → AllByRecursion NotNegative (counts_made (records rs))
naturals_made [] = tt
naturals_made (r ∷ rs) = (omega (arith, ints), naturals_made rs)

naturals_taken : (rs : List Replacement) → AllByRecursion NotNegative (counts_taken (records rs))
naturals_taken [] = tt
naturals_taken (r ∷ rs) = (omega (arith, ints), naturals_taken rs)

total_made : (rs : List Replacement) → total (counts_made (records rs)) ≡ pos (made_count rs)
total_made [] = refl
total_made (r ∷ rs) = ap (λ (z : ℤ). pos (length r.made) +ℤ z) (total_made rs)

total_taken : (rs : List Replacement) → total (counts_taken (records rs)) ≡ pos (taken_count rs)
total_taken [] = refl
total_taken (r ∷ rs) = ap (λ (z : ℤ). pos (length r.taken) +ℤ z) (total_taken rs)

pos_only : (m n : ℕ) → pos m ≡ pos n → m ≡ n
pos_only m n e = omega (arith, ints)

pos_le : (m n : ℕ) → m ≤ n → pos m ≤ℤ pos n
pos_le m n e = omega (arith, ints)

le_pos : (m n : ℕ) → pos m ≤ℤ pos n → m ≤ n
le_pos m n e = omega (arith, ints)

module _ (h : Hierarchy) (s : Shaped h) (p : Places) where
  cells : ℕ
  cells = length h.base + made_count h.replacements

  vertices_are : length (flat h.vertices) ≡ 3 * length h.vertices
  vertices_are = flat_long 3 h.vertices s.vertices

  corners_are : length (flat h.base ++ made_corners h.replacements) ≡ corners_of h.kind * cells
  unfolding cells
  corners_are =
      length-append (flat h.base) (made_corners h.replacements)
      ∙ (λ i. flat_long (corners_of h.kind) h.base s.base i + made_long (corners_of h.kind) h.replacements s.made i)
      ∙ sym (mul-add (corners_of h.kind) (length h.base) (made_count h.replacements))

  sum_is : pos (length h.base) +ℤ total (counts_made (records h.replacements)) ≡ pos cells
  unfolding cells
  sum_is = ap (λ (z : ℤ). pos (length h.base) +ℤ z) (total_made h.replacements)

  pub counted : (q : ℕ) → Fit (contents_of h) p q → Counted (corners_of h.kind) (tables_of h) p q
  unfolding cells
  counted zero x = record { vertices = length h.vertices; whole = vertices_are; some = x.some; most = x.most; room = omega (arith, vertices_are, x.room) }
  counted (suc zero) x =
      record {
        cells = cells;
        whole = corners_are;
        most = x.most;
        some_base = pos_le 1 (length h.base) x.some_base;
        natural = naturals_made h.replacements;
        adds_up = sum_is;
        room = subst (λ (n : ℕ). n ≤ p.corners) (sym corners_are) x.room;
      }
  counted (suc (suc zero)) x =
      let long = records_long h.replacements in
      record { replacements = length h.replacements; whole = long; most = x.most; room = omega (arith, long, x.room) }
  counted (suc (suc (suc zero))) x =
      let long = taken_long h.replacements in
      record {
        most = omega (arith, long, x.most);
        natural = naturals_taken h.replacements;
        adds_up = total_taken h.replacements ∙ ap pos (sym long);
        room = omega (arith, long, x.room);
      }
  counted (suc (suc (suc (suc q)))) x = tt

  pub fits : (q : ℕ) → Counted (corners_of h.kind) (tables_of h) p q → Fit (contents_of h) p q
  unfolding cells
  fits zero x =
      let same : x.vertices ≡ length h.vertices = omega (arith, x.whole, vertices_are) in
      record { some = omega (arith, same, x.some); most = omega (arith, same, x.most); room = omega (arith, vertices_are, x.room) }
  fits (suc zero) x =
      let same : x.cells ≡ length h.base + made_count h.replacements = pos_only x.cells _ (sym x.adds_up ∙ sum_is) in
      record {
        some_base = le_pos 1 (length h.base) x.some_base;
        base_cells = omega arith;
        most = omega (arith, same, x.most);
        room = subst (λ (n : ℕ). n ≤ p.corners) corners_are x.room;
      }
  fits (suc (suc zero)) x =
      let long = records_long h.replacements in
      let same : x.replacements ≡ length h.replacements = omega (arith, x.whole, long) in
      record { most = omega (arith, same, x.most); room = omega (arith, long, x.room) }
  fits (suc (suc (suc zero))) x =
      let long = taken_long h.replacements in
      record { most = omega (arith, long, x.most); room = omega (arith, long, x.room) }
  fits (suc (suc (suc (suc q)))) x = tt
