-- A scanner's steps, one after the other. Assumes nothing.
use Rattle.std.proofs.Common.{◌≡◌, ℕ, Bool, cond, List, [], ◌∷◌, ◌++◌, length, ℤ, Some, None, Option, sym, refl, ap, ◌∙◌, subst, append_assoc, append-nil, arith, length-append}
use mathlib.Core.List.{map-append}
use Rattle.faults.specs.declared.Fault.{Fault}
use Rattle.forms.specs.Form.{Form, nothing, ◌then◌, Item, item, Token, figure, symbol, Wrong}
use Rattle.forms.specs.Array.{sign, whole, blanks}
use Rattle.forms.specs.Progress.{After, onto, BlankFree, Apt}
use Rattle.forms.specs.Range.{said, far, earlier, first_far}
use Rattle.forms.proofs.Range.{earlier_none, earlier_assoc, first_far_append, clip_far}
use Rattle.scanner.specs.Scanner.{text, Step, Skipped, Passed, Numbered, Missed, Lost}
use Rattle.scanner.specs.declared.Scanner.{Scanner}

module _ {r s u : Scanner} {F G H : Form} {t t' : List Token} where
  pub step_on : Step r s F G t → Step s u G H t' → Step r u F H (t ++ t')
  step_on p q =
      let same = ap length p.same in
      record {
        items = p.items ++ q.items;
        same = q.same ∙ p.same;
        on = omega (arith, p.on, q.on, length-append t t');
        within = λ h. omega (arith, same, q.within (omega (arith, same, p.within h)));
        took = λ L K e apt h.
            let x = subst (λ (w : List ℕ). After L w s.at (e ++ p.items) (onto G K)) (sym p.same) (p.took L K e apt h) in
            subst (λ (w : List ℕ). After L w u.at (e ++ (p.items ++ q.items)) (onto H K)) p.same
            (subst (λ (o : List Item). After L (text s) u.at o (onto H K)) (append_assoc e p.items q.items) (q.took L K (e ++ p.items) apt x));
        says = map-append said p.items q.items ∙ (λ i. p.says i ++ q.says i);
        far = q.far ∙ ap (λ (k : Option ℕ). earlier k (first_far q.items)) p.far ∙ sym (earlier_assoc r.far (first_far p.items) (first_far q.items)) ∙ ap (earlier r.far) (sym (first_far_append p.items q.items));
      }

module _ {r s : Scanner} {F G : Form} {t : List Token} where
  pub lost_after : {f : Fault} → Step r s F G t → Lost s G f → Lost r F f
  lost_after {f} p x =
      record { refusal = x.refusal; wrong = λ L K e apt h. subst (λ (w : List ℕ). Wrong L w f.place) p.same (x.wrong L K (e ++ p.items) apt (subst (λ (w : List ℕ). After L w s.at (e ++ p.items) (onto G K)) (sym p.same) (p.took L K e apt h))) }

  pub step_says : {t' : List Token} → t ≡ t' → Step r s F G t → Step r s F G t'
  step_says e p = subst (Step r s F G) e p

module _ {r : Scanner} {F : Form} {f : Fault} where
  pub lost_by : Missed r F f → Lost r F f
  lost_by m = record { refusal = m.refusal; wrong = λ L K e apt h. m.wrong L K e h }

  pub lost_first : (H : Form) → Missed r F f → Lost r (F then H) f
  lost_first H m = record { refusal = m.refusal; wrong = λ L K e apt h. m.wrong L (onto H K) e h }

  pub lost_before : (H : Form) → ((K : Form) → Apt K → Apt (onto H K)) → Lost r F f → Lost r (F then H) f
  lost_before H fits x = record { refusal = x.refusal; wrong = λ L K e apt h. x.wrong L (onto H K) e (fits K apt) h }

module _ {r s : Scanner} {F : Form} {t : List Token} where
  pub step_before : (H : Form) → ((K : Form) → Apt K → Apt (onto H K)) → Step r s F nothing t → Step r s (F then H) H t
  step_before H fits p =
      record { items = p.items; same = p.same; on = p.on; within = p.within; took = λ L K e apt h. p.took L (onto H K) e (fits K apt) h; says = p.says; far = p.far }

module _ {r s : Scanner} {b : ℕ} (p : Passed r s b) where
  pub mark_step : (H : Form) → ((K : Form) → Apt K → BlankFree (onto H K)) → Step r s (sign b then H) H (symbol b ∷ [])
  mark_step H fits =
      record {
        items = item r.at (symbol b) ∷ [];
        same = p.same;
        on = omega (arith, p.on);
        within = λ h. p.within;
        took = λ L K e apt h. p.took L (onto H K) e (fits K apt) h;
        says = refl;
        far = p.far ∙ sym (earlier_none r.far);
      }

  pub mark_last : Step r s (sign b) nothing (symbol b ∷ [])
  mark_last =
      record {
        items = item r.at (symbol b) ∷ [];
        same = p.same;
        on = omega (arith, p.on);
        within = λ h. p.within;
        took = λ L K e apt h. p.took L K e apt.0 h;
        says = refl;
        far = p.far ∙ sym (earlier_none r.far);
      }

-- the same point, where another form comes
pub still : {r : Scanner} (F G : Form) → ((L K : Form) (e : List Item) → Apt K → After L (text r) r.at e (onto F K) → After L (text r) r.at e (onto G K)) → Step r r F G []
still {r} F G f =
    record {
      items = [];
      same = refl;
      on = omega arith;
      within = λ h. h;
      took = λ L K e apt h. subst (λ (o : List Item). After L (text r) r.at o (onto G K)) (sym (append-nil e)) (f L K e apt h);
      says = refl;
      far = sym (earlier_none r.far);
    }

-- a number, noted where it is beyond the range, and white space
pub one_step : {r a b s : Scanner} {v : ℤ} → Numbered r a v → text b ≡ text a → b.at ≡ a.at → b.far ≡ earlier a.far (far r.at v) → Skipped b s → Step r s whole nothing (figure v ∷ [])
one_step {r} {a} {b} {s} {v} n same at_same noted k =
    let line : text b ≡ text r = same ∙ n.same in
    let long = ap length line in
    record {
      items = item r.at (figure n.denotes) ∷ [];
      same = k.same ∙ line;
      on = omega (arith, n.on, k.on);
      within = λ h. omega (arith, long, k.within (omega (arith, long, n.within)));
      took = λ L K e apt h.
          let x = n.took L (blanks then K) e apt.1 h in
          let y = subst (λ (i : ℕ). After L (text r) i (e ++ item r.at (figure n.denotes) ∷ []) (blanks then K)) (sym at_same) x in
          let z = k.took L K _ apt.0 (subst (λ (w : List ℕ). After L w b.at (e ++ item r.at (figure n.denotes) ∷ []) (blanks then K)) (sym line) y) in
          subst (λ (w : List ℕ). After L w s.at (e ++ item r.at (figure n.denotes) ∷ []) K) line z;
      says = ap (λ (z : ℤ). figure z ∷ []) n.clipped;
      far = k.far ∙ noted ∙ ap (λ (q : Option ℕ). earlier q (far r.at v)) n.far
          ∙ ap (earlier r.far) (ap (λ (z : ℤ). far r.at z) (sym n.clipped) ∙ ap (λ (c : Bool). cond c (Some r.at) None) (clip_far n.denotes) ∙ sym (earlier_none _));
    }
