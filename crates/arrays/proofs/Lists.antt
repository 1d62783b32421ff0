-- Arrays, entry by entry. Assumes nothing.
use Rattle.std.proofs.Common.{◌≡◌, ℕ, suc, ◌+◌, ◌-◌, ◌<◌, ◌≤◌, eqb, List, [], ◌∷◌, ◌++◌, length, ℤ, Some, Result, sym, refl, ap, ◌∙◌, subst, append_assoc, append-nil, add-one, arith, MatchResult}
use Rattle.std.specs.List.{AllByRecursion}
use Rattle.std.proofs.ByRecursion.{All-push}
use Rattle.std.proofs.lemmas.List.{length_push}
use Rattle.std.proofs.lemmas.Result.{MatchResult-weaker}
use Rattle.faults.specs.declared.Fault.{Fault}
use Rattle.forms.specs.Form.{Form, nothing, ◌then◌, Token, symbol}
use Rattle.forms.specs.Array.{sign, whole, row, tail, inner, listed, among, parts, array, single, row_tokens}
use Rattle.forms.specs.Progress.{onto, Element}
use Rattle.forms.proofs.Onto.{shuns, shuns_mark, or_left, or_right, many_on, many_off}
use Rattle.scanner.specs.Scanner.{text, next_byte, Step, Passed, Missed, Lost}
use Rattle.scanner.specs.declared.Scanner.{Scanner}
use Rattle.scanner.proofs.Steps.{step_on, lost_after, lost_by, lost_first, lost_before, step_says, step_before, mark_step, mark_last, still}
use Rattle.arrays.specs.Sink.{Filling, put, puts, put_all, put_rows, flat}
use Rattle.arrays.specs.Listing.{Comes, Ended, Separated, NotSeparated, Kept, Listing, rest, lead, Any, Several, Long, Rows, NumbersKept, RowsKept}

above : {n : ℕ} → (n ≡ 0 → ⊥) → suc (n - 1) ≡ n
above some = omega (arith, some)

-- what comes after so many entries
module _ {r : Scanner} {n : ℕ} where
  pub first_comes : n ≡ 0 → (next_byte r ≡ Some 93 → ⊥) → Comes r n
  first_comes e no_end = subst (Comes r) (sym e) (record { step = λ F el. still (inner F) (F then tail F) (λ L K e apt h. or_right refl (shuns_mark no_end) h) })

  pub first_ended : n ≡ 0 → next_byte r ≡ Some 93 → Ended r n
  first_ended e end = subst (Ended r) (sym e) (record { step = λ F el. still (inner F) (sign 93) (λ L K e apt h. or_left end (shuns (eqb 93) _ (el.ends (onto (tail F) K)) 93 refl) h) })

  pub next_comes : (n ≡ 0 → ⊥) → next_byte r ≡ Some 44 → Comes r n
  next_comes some mark = subst (Comes r) (above some) (record { step = λ F el. still (tail F) (sign 44 then F then tail F) (λ L K e apt h. many_on mark (shuns (eqb 44) (onto (sign 93) K) refl 44 refl) h) })

  pub next_ended : (n ≡ 0 → ⊥) → (next_byte r ≡ Some 44 → ⊥) → Ended r n
  next_ended some none = subst (Ended r) (above some) (record { step = λ F el. still (tail F) (sign 93) (λ L K e apt h. many_off refl (shuns_mark none) h) })

  -- the comma before an entry
  pub no_comma : n ≡ 0 → Separated r r n
  no_comma e = subst (Separated r r) (sym e) (record { step = λ K fits. still K K (λ L J e apt h. h) })

pub comma_or_not : (r s : Scanner) (n : ℕ) (q : Result (Unit {0}) Fault) → (n ≡ 0 → ⊥) → MatchResult q (λ _. Passed r s 44) (λ f. Missed r (sign 44) f) → MatchResult q (λ _. Separated r s n) (NotSeparated r n)
comma_or_not r s n q some x =
    MatchResult-weaker q x
    (λ _ p. subst (Separated r s) (above some) (record { step = λ K fits. mark_step p K fits }))
    (λ f m. subst (λ (k : ℕ). NotSeparated r k f) (above some) (record { lost = λ K. lost_first K m }))

module _ {r s : Scanner} {n : ℕ} (F : Form) (el : Element F) (comes : Comes r n) where
  pub going : Separated r s n → Step r s (rest n F) (F then tail F) (lead n)
  going x = step_on (comes.step F el) (x.step (F then tail F) (λ K apt. el.clear (onto (tail F) K)))

module _ {r : Scanner} {n : ℕ} (F : Form) (el : Element F) where
  pub comma_lost : {f : Fault} → Comes r n → NotSeparated r n f → Lost r (rest n F) f
  comma_lost comes x = lost_after (comes.step F el) (x.lost (F then tail F))

  pub unclosed : {f : Fault} → Ended r n → Missed r (sign 93) f → Lost r (rest n F) f
  unclosed end x = lost_after (end.step F el) (lost_by x)

  pub closed : {s : Scanner} → Ended r n → Passed r s 93 → Step r s (rest n F) nothing (symbol 93 ∷ [])
  closed end p = step_on (end.step F el) (mark_last p)

-- one more entry
among-push : {A : Type 0} (f : A → List Token) (xs : List A) (x : A) → among f (xs ++ x ∷ []) ≡ among f xs ++ (symbol 44 ∷ f x)
among-push f [] x = ap {B = List Token} (λ l. symbol 44 ∷ l) (append-nil (f x))
among-push f (y ∷ xs) x = ap {B = List Token} (λ l. symbol 44 ∷ l) (ap (λ (l : List Token). f y ++ l) (among-push f xs x) ∙ sym (append_assoc (f y) (among f xs) (symbol 44 ∷ f x)))

pub parts-push : {A : Type 0} (f : A → List Token) (xs : List A) (x : A) (n : ℕ) → length xs ≡ n → (parts f xs ++ lead n) ++ f x ≡ parts f (xs ++ x ∷ [])
parts-push f [] x n e = subst (λ (k : ℕ). lead k ++ f x ≡ f x ++ []) e (sym (append-nil (f x)))
parts-push f (y ∷ xs) x n e =
    subst (λ (k : ℕ). ((f y ++ among f xs) ++ lead k) ++ f x ≡ f y ++ among f (xs ++ x ∷ [])) e
    (append_assoc (f y ++ among f xs) (symbol 44 ∷ []) (f x) ∙ append_assoc (f y) (among f xs) (symbol 44 ∷ f x) ∙ ap (λ (l : List Token). f y ++ l) (sym (among-push f xs x)))

pub puts-push : {A S : Type 0} (keep : A → S → S) (xs : List A) (x : A) (s : S) → puts keep (xs ++ x ∷ []) s ≡ keep x (puts keep xs s)
puts-push keep [] x s = refl
puts-push keep (y ∷ xs) x s = puts-push keep xs x (keep y s)

pub puts-append : {A S : Type 0} (keep : A → S → S) (xs ys : List A) (s : S) → puts keep (xs ++ ys) s ≡ puts keep ys (puts keep xs s)
puts-append keep [] ys s = refl
puts-append keep (x ∷ xs) ys s = puts-append keep xs ys (keep x s)

-- rows that are kept one by one are kept as one list
pub rows_are : (x : List (List ℤ)) (s : Filling) → puts put_all x s ≡ put_rows x s
rows_are [] s = refl
rows_are (y ∷ x) s = rows_are x (put_all y s) ∙ sym (puts-append put y (flat x) s)

module _ {A S : Type 0} {P : A → Type 0} {print : A → List Token} {keep : A → S → S} (F : Form) (el : Element F) where
  pub listing_none : {r : Scanner} {s : S} → r.at ≤ length (text r) → Listing P print keep F r r 0 s s
  listing_none {r} inside =
      record { values = []; counts = refl; each = tt; step = still (inner F) (inner F) (λ L K e apt h. h); few = omega arith; inside = inside; kept = refl }

  module _ {r s u : Scanner} {count : ℕ} {before mid : S} (l : Listing P print keep F r s count before mid) (goes : Step s u (rest count F) (F then tail F) (lead count)) where
    pub listing_more : {w : Scanner} {after : S} → Kept P print keep F u w mid after → u.at < w.at → Listing P print keep F r w (count + 1) before after
    listing_more {w} {after} k moved =
        let steps = step_on (step_on l.step goes) (step_before (tail F) (λ K apt. (refl, refl)) k.step) in
        let same = ap length l.step.same in
        let again = ap length goes.same in
        record {
          values = l.values ++ k.value ∷ [];
          counts = length_push l.values k.value ∙ ap (λ (n : ℕ). n + 1) l.counts;
          each = All-push P l.values k.value l.each k.is;
          step = subst (λ (n : ℕ). Step r w (inner F) (rest n F) (parts print (l.values ++ k.value ∷ []))) (sym (add-one count)) (step_says (parts-push print l.values k.value count l.counts) steps);
          few = omega (arith, l.few, goes.on);
          inside = omega (arith, same, again, k.step.within (omega (arith, same, again, goes.within (omega (arith, same, l.inside)))));
          kept = k.kept ∙ ap (keep k.value) l.kept ∙ sym (puts-push keep l.values k.value before);
        }

    pub entry_lost : {f : Fault} → Lost u F f → Lost r (inner F) f
    entry_lost x = lost_after (step_on l.step goes) (lost_before (tail F) (λ K apt. (refl, refl)) x)

  pub listing_end : {o r s u : Scanner} {count : ℕ} {before after : S} → Passed o r 91 → Listing P print keep F r s count before after → Step s u (rest count F) nothing (symbol 93 ∷ []) → Kept (λ x. (length x ≡ count) × AllByRecursion P x) (array print) (puts keep) (listed F) o u before after
  listing_end p l goes =
      record {
        value = l.values;
        is = (l.counts, l.each);
        step = step_on (mark_step p (inner F) (λ K apt. el.clear (onto (tail F) K))) (step_on l.step goes);
        kept = l.kept;
      }

pub list_lost : (F : Form) (el : Element F) {o r : Scanner} {f : Fault} → Passed o r 91 → Lost r (inner F) f → Lost o (listed F) f
list_lost F el p x = lost_after (mark_step p (inner F) (λ K apt. el.clear (onto (tail F) K))) x

module _ {A S : Type 0} {print : A → List Token} {F : Form} {r s : Scanner} {before after : S} where
  pub kept_as : {P : A → Type 0} {keep : A → S → S} (Q : A → Type 0) (keep' : A → S → S) → ((x : A) → P x → Q x) → ((x : A) (t : S) → keep x t ≡ keep' x t) → Kept P print keep F r s before after → Kept Q print keep' F r s before after
  kept_as Q keep' f g k = record { value = k.value; is = f k.value k.is; step = k.step; kept = k.kept ∙ g k.value before }

-- an array of numbers, and an array of rows
pub numbers_kept : {n : ℕ} {r s : Scanner} {before after : Filling} → Kept (Several Any n) (array single) (puts put) (listed whole) r s before after → NumbersKept n r s before after
numbers_kept {n} k = kept_as (Long n) put_all (λ x h. h.0) (λ x t. refl) k

pub rows_kept : {width n : ℕ} {r s : Scanner} {before after : Filling} → Kept (Several (Long width) n) (array row_tokens) (puts put_all) (listed (row width)) r s before after → RowsKept width n r s before after
rows_kept {width} {n} k = kept_as (Rows width n) put_rows (λ x h. h) rows_are k
