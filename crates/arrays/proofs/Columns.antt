-- Rows, number by number. Assumes nothing.
use Rattle.std.proofs.Common.{◌≡◌, ℕ, zero, suc, ◌+◌, ◌-◌, ◌≤◌, [], ◌∷◌, ◌++◌, sym, refl, ap, ◌∙◌, subst, add-one, arith}
use native.Mathlib.Nat.{sub-zero}
use Rattle.std.proofs.lemmas.List.{length_push}
use Rattle.faults.specs.declared.Fault.{Fault}
use Rattle.forms.specs.Form.{Form, ◌then◌, symbol}
use Rattle.forms.specs.Array.{sign, whole, row, row_left, columns, parts, single}
use Rattle.forms.specs.Progress.{onto, BlankFree, Apt}
use Rattle.scanner.specs.Scanner.{Step, Passed, Missed, Lost}
use Rattle.scanner.specs.declared.Scanner.{Scanner}
use Rattle.scanner.proofs.Steps.{step_on, lost_after, lost_by, lost_first, lost_before, step_says, step_before, mark_step, mark_last, still}
use Rattle.arrays.specs.Sink.{Filling, put}
use Rattle.arrays.specs.Listing.{NumberKept, RowKept, RowSoFar, Separated, NotSeparated, comma, lead}
use Rattle.arrays.proofs.Lists.{parts-push, puts-push}

left_apt : (m : ℕ) (K : Form) → Apt K → Apt (onto (row_left m) K)
left_apt zero K apt = (refl, refl)
left_apt (suc m) K apt = (refl, refl)

columns_clear : (n : ℕ) (K : Form) → Apt K → BlankFree (onto (columns 0 n) K)
columns_clear zero K apt = refl
columns_clear (suc n) K apt = refl

-- what comes before a number of a row
columns_comma : (i m : ℕ) → columns i (suc m) ≡ comma i (whole then row_left m)
columns_comma zero m = refl
columns_comma (suc i) m = refl

pub comma_step : (i m : ℕ) {r s : Scanner} → Separated r s i → Step r s (columns i (suc m)) (whole then row_left m) (lead i)
comma_step i m {r} {s} x = subst (λ (F : Form). Step r s F (whole then row_left m) (lead i)) (sym (columns_comma i m)) (x.step (whole then row_left m) (λ K apt. refl))

pub comma_missed : (i m : ℕ) {r : Scanner} {f : Fault} → NotSeparated r i f → Lost r (columns i (suc m)) f
comma_missed i m {r} {f} x = subst (λ (F : Form). Lost r F f) (sym (columns_comma i m)) (x.lost (whole then row_left m))

pub row_none : {n : ℕ} {r : Scanner} {t : Filling} → RowSoFar n 0 r r t t
row_none {n} {r} {t} =
    record {
      values = [];
      counts = refl;
      step = subst (λ (k : ℕ). Step r r (columns 0 n) (columns 0 k) []) (sym (sub-zero n)) (still (columns 0 n) (columns 0 n) (λ L K e apt h. h));
      kept = refl;
    }

module _ {n i m : ℕ} {r s : Scanner} {before mid : Filling} (l : RowSoFar n i r s before mid) (less : n - i ≡ suc m) where
  at_next : Step r s (columns 0 n) (columns i (suc m)) (parts single l.values)
  at_next = subst (λ (k : ℕ). Step r s (columns 0 n) (columns i k) (parts single l.values)) less l.step

  pub separator_lost : {f : Fault} → Lost s (columns i (suc m)) f → Lost r (columns 0 n) f
  separator_lost x = lost_after at_next x

  module _ {u : Scanner} (p : Step s u (columns i (suc m)) (whole then row_left m) (lead i)) where
    pub number_lost : {f : Fault} → Lost u whole f → Lost r (columns 0 n) f
    number_lost x = lost_after (step_on at_next p) (lost_before (row_left m) (left_apt m) x)

    pub row_more : {w : Scanner} {after : Filling} → n - (i + 1) ≡ m → NumberKept u w mid after → RowSoFar n (i + 1) r w before after
    row_more {w} {after} left k =
        let steps = step_on (step_on at_next p) (step_before (row_left m) (left_apt m) k.step) in
        let said = step_says (parts-push single l.values k.value i l.counts) steps in
        let read = subst (λ (x : ℕ). Step r w (columns 0 n) (row_left x) (parts single (l.values ++ k.value ∷ []))) (sym left) said in
        record {
          values = l.values ++ k.value ∷ [];
          counts = length_push l.values k.value ∙ ap (λ (x : ℕ). x + 1) l.counts;
          step = subst (λ (x : ℕ). Step r w (columns 0 n) (columns x (n - (i + 1))) (parts single (l.values ++ k.value ∷ []))) (sym (add-one i)) read;
          kept = k.kept ∙ ap (put k.value) l.kept ∙ sym (puts-push put l.values k.value before);
        }

-- a row without more numbers ends
end_of : (i : ℕ) → columns i 0 ≡ sign 93
end_of zero = refl
end_of (suc i) = refl

pub row_unopened : {r : Scanner} {f : Fault} (n : ℕ) → Missed r (sign 91) f → Lost r (row n) f
row_unopened n m = lost_first (columns 0 n) m

module _ (n : ℕ) {o r : Scanner} (p : Passed o r 91) where
  opened : Step o r (row n) (columns 0 n) (symbol 91 ∷ [])
  opened = mark_step p (columns 0 n) (columns_clear n)

  pub row_lost : {f : Fault} → Lost r (columns 0 n) f → Lost o (row n) f
  row_lost x = lost_after opened x

  module _ {i : ℕ} {u : Scanner} {before after : Filling} (l : RowSoFar n i r u before after) (done : n - i ≡ 0) where
    at_end : Step o u (row n) (sign 93) (symbol 91 ∷ parts single l.values)
    at_end = step_on opened (subst (λ (F : Form). Step r u (columns 0 n) F (parts single l.values)) (ap (columns i) done ∙ end_of i) l.step)

    pub row_unclosed : {f : Fault} → Missed u (sign 93) f → Lost o (row n) f
    row_unclosed x = lost_after at_end (lost_by x)

    pub row_end : {w : Scanner} → i ≤ n → Passed u w 93 → RowKept n o w before after
    row_end le q = record { value = l.values; is = omega (arith, l.counts); step = step_on at_end (mark_last q); kept = l.kept }
