-- The ranges of the replacements of a table, gone through record by record. Assumes nothing.
use Rattle.std.proofs.Common.{◌≡◌, ℕ, zero, suc, ◌+◌, ◌-◌, ◌<◌, ◌≤◌, List, [], ◌∷◌, map, length, get_or, ℤ, nat_abs, refl, ap, ◌∙◌, add-one, arith, true, sym}
use Rattle.std.specs.List.{range_with_len, sum_by}
use Rattle.std.proofs.lemmas.List.Sums.{sum_by-cons}
use Rattle.kinds.specs.declared.numbers.ReplacementId.{ReplacementId}
use Rattle.tables.specs.Tables.{Tables}
use Rattle.rules.specs.declared.record.Record.{Record}
use Rattle.rules.specs.Cells.{replacement}
use Rattle.rules.specs.Ranges.{before}
use Rattle.rules.specs.Raw.{field}
use Rattle.rules.specs.Records.{records_of, record_at}
use Rattle.rules.specs.Rows.{replacements_in}
use Rattle.rules.proofs.Cells.{replacement_tells}
use Rattle.rules.proofs.RecordLists.{records_long, record_is}
use Rattle.owners.specs.declared.part.Part.{Part}
use Rattle.owners.specs.Owners.{count_of, part_of, numbered_parts}
use Rattle.owners.specs.Parts.{parts_from}

-- what k replacements and the next have together
pub before_next : (c : ℕ) (rs : List ℤ) (k : ℕ) → before c rs (k + 1) ≡ before c rs k + nat_abs (field rs k c)
before_next c rs k = ap (before c rs) (add-one k)

-- the records qs stand in the table from place k on
abbrev pub Stand : List ℤ → ℕ → List Record → Type 0
Stand rs k qs = (i : ℕ) (d : Record) → i < length qs → get_or qs i d ≡ record_at rs (k + i)

stand_next : (rs : List ℤ) (k : ℕ) (q : Record) (qs : List Record) → Stand rs k (q ∷ qs) → Stand rs (k + 1) qs
stand_next rs k q qs h i d lt = h (suc i) d (omega arith) ∙ ap (record_at rs) (omega arith)

-- a column of them adds up to what the replacements have from there on
sums : (c : ℕ) (f : Record → ℤ) → ((rs : List ℤ) (k : ℕ) → f (record_at rs k) ≡ field rs k c)
    → (rs : List ℤ) (k : ℕ) (qs : List Record) → Stand rs k qs → before c rs k + sum_by (λ r. nat_abs (f r)) qs ≡ before c rs (k + length qs)
sums c f reads rs k [] h = let e : k + 0 ≡ k = omega arith in omega (arith, ap (before c rs) e)
sums c f reads rs k (q ∷ qs) h =
    let here : f q ≡ field rs k c = ap f (h 0 q (omega arith) ∙ ap (record_at rs) (omega arith)) ∙ reads rs k in
    let end : k + length (q ∷ qs) ≡ k + 1 + length qs = omega arith in
    omega (arith, sum_by-cons (λ r. nat_abs (f r)) q qs, ap nat_abs here, before_next c rs k, sums c f reads rs (k + 1) qs (stand_next rs k q qs h), ap (before c rs) end)

module _ (t : Tables) where
  abbrev rs : List ℤ
  rs = t.replacements

  abbrev numbered : ℕ → ReplacementId × Part
  numbered n = (record { 0 = n }, part_of t n)

  parts_are : (k : ℕ) (qs : List Record) → Stand rs k qs → parts_from k (before 1 rs k) (nat_abs t.base + before 2 rs k) qs ≡ map numbered (range_with_len (k + 1) (length qs))
  parts_are k [] h = refl
  parts_are k (q ∷ qs) h =
      let e : k ≡ k + 1 - 1 = omega arith in
      let here : q ≡ record_at rs k = h 0 q (omega arith) ∙ ap (record_at rs) (omega arith) in
      let list : before 1 rs k + nat_abs q.takes ≡ before 1 rs (k + 1) = omega (arith, before_next 1 rs k, ap (λ (r : Record). nat_abs r.takes) here) in
      let first : nat_abs t.base + before 2 rs k + nat_abs q.makes ≡ nat_abs t.base + before 2 rs (k + 1) = omega (arith, before_next 2 rs k, ap (λ (r : Record). nat_abs r.makes) here) in
      let tail = parts_are (k + 1) qs (stand_next rs k q qs h) in
      cc

  all_stand : Stand rs 0 (records_of rs)
  all_stand i d lt = record_is rs i d lt ∙ ap (record_at rs) (omega arith)

  pub all_parts : parts_from 0 0 (nat_abs t.base) (records_of rs) ≡ numbered_parts t
  all_parts = ap (λ (c : ℕ). parts_from 0 0 c (records_of rs)) (omega arith) ∙ parts_are 0 (records_of rs) all_stand ∙ ap (λ (n : ℕ). map numbered (range_with_len 1 n)) (records_long rs)

  pub all_takes : sum_by (λ r. nat_abs r.takes) (records_of rs) ≡ before 1 rs (replacements_in t)
  all_takes = let e : 0 + length (records_of rs) ≡ replacements_in t = omega (arith, records_long rs) in omega (arith, sums 1 (λ r. r.takes) (λ x k. refl) rs 0 (records_of rs) all_stand, ap (before 1 rs) e)

  pub all_makes : sum_by (λ r. nat_abs r.makes) (records_of rs) ≡ before 2 rs (replacements_in t)
  all_makes = let e : 0 + length (records_of rs) ≡ replacements_in t = omega (arith, records_long rs) in omega (arith, sums 2 (λ r. r.makes) (λ x k. refl) rs 0 (records_of rs) all_stand, ap (before 2 rs) e)

  -- the replacements after k others, each with its number and its ranges
  abbrev pub later_parts : ℕ → List (ReplacementId × Part)
  later_parts k = map numbered (range_with_len (k + 1) (replacements_in t - k))

  -- the next replacement after k others: its number n, its ranges p, and those after it
  pub record Turn (k : ℕ) (n : ReplacementId) (p : Part) (left : List (ReplacementId × Part)) : Type 0 where
    pub inside : k < replacements_in t
    pub number : n.0 ≡ k + 1
    pub real : replacement t n.0 ≡ true
    pub is : p ≡ part_of t n.0
    pub list : p.list ≡ before 1 rs k
    pub list_end : p.list + p.takes ≡ before 1 rs (k + 1)
    pub first : p.first ≡ nat_abs t.base + before 2 rs k
    pub first_end : p.first + p.makes ≡ nat_abs t.base + before 2 rs (k + 1)
    pub rest : left ≡ later_parts (k + 1)

  pub turn : {k : ℕ} {n : ReplacementId} {p : Part} {left : List (ReplacementId × Part)} → later_parts k ≡ (n, p) ∷ left → Turn k n p left
  turn {k} {n} {p} {left} e = go (replacements_in t - k) refl e
    where
      go : (m : ℕ) → replacements_in t - k ≡ m → map numbered (range_with_len (k + 1) m) ≡ (n, p) ∷ left → Turn k n p left
      go zero d e = cc
      go (suc m) d e =
          let more : m ≡ replacements_in t - (k + 1) = omega arith in
          let next : ◌≡◌ {A = ReplacementId × Part} (n, p) (numbered (k + 1)) = cc in
          let number : n.0 ≡ k + 1 = ap (λ (x : ReplacementId × Part). x.0.0) next in
          let is : p ≡ part_of t (k + 1) = ap (λ (x : ReplacementId × Part). x.1) next in
          let one : k + 1 - 1 ≡ k = omega arith in
          let list : p.list ≡ before 1 rs k = ap (λ (x : Part). x.list) is ∙ ap (before 1 rs) one in
          let first : p.first ≡ nat_abs t.base + before 2 rs k = ap (λ (x : Part). x.first) is ∙ ap (λ (x : ℕ). nat_abs t.base + before 2 rs x) one in
          record {
            inside = omega arith;
            number = number;
            real = (replacement_tells t n.0).1 (omega arith, omega arith);
            is = is ∙ ap (part_of t) (sym number);
            list = list;
            list_end = omega (arith, list, ap (λ (x : Part). x.takes) is, ap (count_of 1 rs) one, before_next 1 rs k);
            first = first;
            first_end = omega (arith, first, ap (λ (x : Part). x.makes) is, ap (count_of 2 rs) one, before_next 2 rs k);
            rest = cc;
          }

  -- there are none
  pub turns_end : {k : ℕ} → later_parts k ≡ [] → replacements_in t ≤ k
  turns_end {k} e = go (replacements_in t - k) refl e
    where
      go : (m : ℕ) → replacements_in t - k ≡ m → map numbered (range_with_len (k + 1) m) ≡ [] → replacements_in t ≤ k
      go zero d e = omega arith
      go (suc m) d e = cc
