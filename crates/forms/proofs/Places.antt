-- The items of a line stand in the line, so the place of a refusal is no greater than the line is long. Assumes nothing.
use Rattle.std.proofs.Common.{◌≡◌, ℕ, zero, suc, ◌+◌, ◌≤◌, Bool, true, false, cond, List, [], ◌∷◌, ◌++◌, length, Some, None, Option, sym, ap, ◌∙◌, subst, ⊎_elim, append_assoc, append-nil, arith, length-append}
use Rattle.faults.specs.declared.Fault.{Fault}
use Rattle.forms.specs.Form.{Form, nothing, byte, mark, number, ◌then◌, ◌or◌, many, Item, item, Token, figure, symbol, Point, at, Times, Reads, Line}
use Rattle.forms.specs.Range.{beyond, token_far, earlier, first_far}
use Rattle.forms.specs.Line.{Misread}

-- no item stands after n
abbrev Before : ℕ → List Item → Type 0
Before n [] = Unit {0}
Before n (x ∷ o) = (x.place ≤ n) × Before n o

before_more : (m n : ℕ) (o : List Item) → m ≤ n → Before m o → Before n o
before_more m n [] le b = tt
before_more m n (x ∷ o) le b = (omega (arith, b.0), before_more m n o le b.1)

before-append : (n : ℕ) (o p : List Item) → Before n o → Before n p → Before n (o ++ p)
before-append n [] p a b = b
before-append n (x ∷ o) p a b = (a.0, before-append n o p a.1 b)

-- what stands between two points: its items, and that the bytes are counted right
record Between (s t : Point) : Type 0 where
  items : List Item
  are : s.items ≡ items ++ t.items
  counts : s.index + length s.text ≡ t.index + length t.text
  on : s.index ≤ t.index
  before : Before t.index items

same_point : (s t : Point) → s ≡ t → Between s t
same_point s t e =
    record {
      items = [];
      are = ap (λ (p : Point). p.items) e;
      counts = λ i. (e i).index + length (e i).text;
      on = omega (arith, ap (λ (p : Point). p.index) e);
      before = tt;
    }

join : {s m t : Point} → Between s m → Between m t → Between s t
join {s} {m} {t} a b =
    record {
      items = a.items ++ b.items;
      are = a.are ∙ ap (λ (o : List Item). a.items ++ o) b.are ∙ sym (append_assoc a.items b.items t.items);
      counts = a.counts ∙ b.counts;
      on = omega (arith, a.on, b.on);
      before = before-append t.index a.items b.items (before_more m.index t.index a.items b.on a.before) b.before;
    }

times : (R : Point → Point → Type 0) → ((s t : Point) → R s t → Between s t) → (k : ℕ) (s t : Point) → Times R k s t → Between s t
times R one zero s t x = same_point s t x
times R one (suc k) s t x = join (one s x.0 x.1) (times R one k x.0 t x.2)

between : (F : Form) (s t : Point) → Reads F s t → Between s t
between nothing s t x = same_point s t x
between (byte b) s t x =
    let bytes : s.text ≡ b ∷ t.text = ap (λ (p : Point). p.text) x.0 in
    record { items = []; are = ap (λ (p : Point). p.items) x.0; counts = omega (arith, x.1, ap length bytes); on = omega (arith, x.1); before = tt }
between (mark b) s t x =
    let bytes : s.text ≡ b ∷ t.text = ap (λ (p : Point). p.text) x.0 in
    record { items = item s.index (symbol b) ∷ []; are = ap (λ (p : Point). p.items) x.0; counts = omega (arith, x.1, ap length bytes); on = omega (arith, x.1); before = (omega (arith, x.1), tt) }
between number s t x =
    let bytes : s.text ≡ x.0 ++ t.text = ap (λ (p : Point). p.text) x.3 in
    record {
      items = item s.index (figure x.1) ∷ [];
      are = ap (λ (p : Point). p.items) x.3;
      counts = omega (arith, x.4, ap length bytes, length-append x.0 t.text);
      on = omega (arith, x.4);
      before = (omega (arith, x.4), tt);
    }
between (F then G) s t x = join (between F s x.0 x.1) (between G x.0 t x.2)
between (F or G) s t x = ⊎_elim (λ f. between F s t f) (λ g. between G s t g) x
between (many F) s t x = times (Reads F) (between F) x.0 s t x.1

in_line : (F : Form) (w : List ℕ) (o : List Item) → Line F w o → Before (length w) o
in_line F w o x =
    let b = between F (at 0 w o) (at x.0 [] []) x.1 in
    let end : x.0 ≡ length w = omega (arith, b.counts) in
    subst (λ (l : List Item). Before (length w) l) (sym (b.are ∙ append-nil b.items)) (subst (λ (n : ℕ). Before n b.items) end b.before)

far_here : (n p q : ℕ) (t : Token) (next : Option ℕ) → q ≤ n → (next ≡ Some p → p ≤ n) → earlier (token_far q t) next ≡ Some p → p ≤ n
far_here n p q (symbol c) next le later h = later h
far_here n p q (figure z) next le later h = go (beyond z) h
  where
    go : (t : Bool) → earlier (cond t (Some q) None) next ≡ Some p → p ≤ n
    go true e = let same : q ≡ p = cc in omega arith
    go false e = later e

far_in : (n p : ℕ) (o : List Item) → Before n o → first_far o ≡ Some p → p ≤ n
far_in n p [] b e = cc
far_in n p (x ∷ o) b e = far_here n p x.place x.token (first_far o) b.0 (λ h. far_in n p o b.1 h) e

-- the place of a refusal that a line meets
pub place_in : {L : Form} {bs : List ℕ} {f : Fault} → Misread L bs f → f.place ≤ 65536
place_in {L} {bs} {f} =
    ⊎_elim
    (λ o. omega (arith, o.place))
    (⊎_elim
    (λ m. omega (arith, m.wrong.within, m.short))
    (λ r. omega (arith, r.short, far_in (length bs) f.place r.items (in_line L bs r.items r.denotes.line) r.far)))
