-- How a reader comes on in a line. Assumes nothing.
use Rattle.std.proofs.Common.{◌≡◌, ℕ, zero, suc, ◌+◌, ◌<◌, ◌≤◌, ◌⊎◌, List, [], ◌∷◌, ◌++◌, length, get_or, take, drop, pos, Some, None, sym, refl, ap, ◌∙◌, subst, inl, inr, ⊎_elim, append_assoc, append-nil, add-zero, add_assoc, add-one, arith, length-append, take-append-drop}
use Rattle.std.proofs.str.Laws.{order}
use Rattle.std.proofs.lemmas.List.{take_all}
use Rattle.forms.specs.Form.{Form, nothing, byte, mark, number, ◌then◌, ◌or◌, many, figure, symbol, Item, item, Point, at, Times, Reads, Ends, Line, Viable, Wrong}
use Rattle.forms.specs.Progress.{ahead, After, Shuns}

-- a text of the form, before any other
pub record Sample (F : Form) : Type 0 where
  pub text : List ℕ
  pub items : ℕ → List Item
  pub reads : (i : ℕ) (v : List ℕ) (o : List Item) → Reads F (at i (text ++ v) (items i ++ o)) (at (i + length text) v o)

pub sample : (F : Form) → Sample F
sample nothing = record { text = []; items = λ i. []; reads = λ i v o. ap (λ (k : ℕ). at k v o) (sym (add-zero i)) }
sample (byte b) = record { text = b ∷ []; items = λ i. []; reads = λ i v o. (refl, refl) }
sample (mark b) = record { text = b ∷ []; items = λ i. item i (symbol b) ∷ []; reads = λ i v o. (refl, refl) }
sample number =
    record {
      text = 48 ∷ [];
      items = λ i. item i (figure (pos 0)) ∷ [];
      reads = λ i v o. (48 ∷ [], pos 0, inl (inl (refl, refl), refl), refl, refl);
    }
sample (F then G) =
    let f = sample F in
    let g = sample G in
    record {
      text = f.text ++ g.text;
      items = λ i. f.items i ++ g.items (i + length f.text);
      reads = λ i v o.
          rw (append_assoc f.text g.text v, append_assoc (f.items i) (g.items (i + length f.text)) o, length-append f.text g.text, ← (add_assoc i (length f.text) (length g.text))) (
            at (i + length f.text) (g.text ++ v) (g.items (i + length f.text) ++ o),
            f.reads i (g.text ++ v) (g.items (i + length f.text) ++ o),
            g.reads (i + length f.text) v o,
          );
    }
sample (F or G) = let f = sample F in record { text = f.text; items = f.items; reads = λ i v o. inl (f.reads i v o) }
sample (many F) = record { text = []; items = λ i. []; reads = λ i v o. (0, ap (λ k. at k v o) (sym (add-zero i))) }

-- every form has a text that ends a line
pub some_end : (F : Form) (i : ℕ) → (v : List ℕ) × (o : List Item) × Ends F i v o
some_end F i =
    let f = sample F in
    (f.text, f.items i, (i + length f.text, simp append-nil at (f.reads i [] [])))

module _ {L : Form} {bs : List ℕ} {i : ℕ} {e : List Item} {F : Form} where
  -- another form that goes on in the same way, by the byte that comes next
  pub narrow : (G : Form) → After L bs i e F → ((v : List ℕ) (o : List Item) → Ends G i v o → Ends F i v o) → ((v : List ℕ) (o : List Item) → ahead v ≡ ahead (drop i bs) → Ends F i v o → Ends G i v o) → After L bs i e G
  narrow G h up down =
      record {
        within = h.within;
        sound = λ v o x. h.sound v o (up v o x);
        complete = λ v o a x. let r = h.complete v o a x in (r.0, r.1, down v r.0 a r.2);
      }

pub byte_in : (b : ℕ) (K : Form) (i : ℕ) (v : List ℕ) (o : List Item) → Ends K (i + 1) v o → Ends (byte b then K) i (b ∷ v) o
byte_in b K i v o x = (x.0, (at (i + 1) v o, (refl, refl), x.1))

pub byte_out : (b c : ℕ) (K : Form) (i : ℕ) (v : List ℕ) (o : List Item) → Ends (byte b then K) i (c ∷ v) o → (c ≡ b) × Ends K (i + 1) v o
byte_out b c K i v o x =
    let m = x.1.0 in
    let texts : c ∷ v ≡ b ∷ m.text = ap (λ (s : Point). s.text) x.1.1.0 in
    let items : o ≡ m.items = ap (λ (s : Point). s.items) x.1.1.0 in
    let head : c ≡ b = cc in
    let tail : v ≡ m.text = cc in
    let same : m ≡ at (i + 1) v o = λ k. at (x.1.1.1 k) (sym tail k) (sym items k) in
    (head, (x.0, subst (λ (s : Point). Reads K s (at x.0 [] [])) same x.1.2))

pub byte_end : (b : ℕ) (K : Form) (i : ℕ) (o : List Item) → Ends (byte b then K) i [] o → ⊥
byte_end b K i o x =
    let texts : [] ≡ b ∷ x.1.0.text = ap (λ (s : Point). s.text) x.1.1.0 in
    cc

pub mark_out : (b c : ℕ) (K : Form) (i : ℕ) (v : List ℕ) (o : List Item) → Ends (mark b then K) i (c ∷ v) o → (c ≡ b) × ((p : List Item) × (o ≡ item i (symbol b) ∷ p) × Ends K (i + 1) v p)
mark_out b c K i v o x =
    let m = x.1.0 in
    let texts : c ∷ v ≡ b ∷ m.text = ap (λ (s : Point). s.text) x.1.1.0 in
    let items : o ≡ item i (symbol b) ∷ m.items = ap (λ (s : Point). s.items) x.1.1.0 in
    let head : c ≡ b = cc in
    let tail : v ≡ m.text = cc in
    let same : m ≡ at (i + 1) v m.items = λ k. at (x.1.1.1 k) (sym tail k) m.items in
    (head, (m.items, items, (x.0, subst (λ (s : Point). Reads K s (at x.0 [] [])) same x.1.2)))

pub mark_end : (b : ℕ) (K : Form) (i : ℕ) (o : List Item) → Ends (mark b then K) i [] o → ⊥
mark_end b K i o x =
    let texts : [] ≡ b ∷ x.1.0.text = ap (λ (s : Point). s.text) x.1.1.0 in
    cc

pub ahead_at : (bs : List ℕ) (i : ℕ) → i < length bs → Some (get_or bs i 0) ≡ ahead (drop i bs)
ahead_at [] i h = absurd (omega arith)
ahead_at (x ∷ bs) zero h = refl
ahead_at (x ∷ bs) (suc i) h = ahead_at bs i (omega arith)

pub ahead_past : (bs : List ℕ) (i : ℕ) → length bs ≤ i → None ≡ ahead (drop i bs)
ahead_past [] zero h = refl
ahead_past [] (suc i) h = refl
ahead_past (x ∷ bs) zero h = absurd (omega arith)
ahead_past (x ∷ bs) (suc i) h = ahead_past bs i (omega arith)

-- where b comes next
pub record Here (bs : List ℕ) (i b : ℕ) : Type 0 where
  pub inside : i < length bs
  pub rest : drop i bs ≡ b ∷ drop (i + 1) bs
  pub front : (v : List ℕ) → take (i + 1) bs ++ v ≡ take i bs ++ (b ∷ v)

here_suc : (bs : List ℕ) (i b : ℕ) → ahead (drop i bs) ≡ Some b → (i < length bs) × (drop i bs ≡ b ∷ drop (suc i) bs) × ((v : List ℕ) → take (suc i) bs ++ v ≡ take i bs ++ (b ∷ v))
here_suc [] zero b h = cc
here_suc [] (suc i) b h = cc
here_suc (x ∷ bs) zero b h = let y : x ≡ b = cc in (omega arith, ap (λ (k : ℕ). k ∷ bs) y, λ v. ap (λ (k : ℕ). k ∷ v) y)
here_suc (x ∷ bs) (suc i) b h =
    let r = here_suc bs i b h in
    (omega (arith, r.0), r.1, λ v. ap {B = List ℕ} (λ l. x ∷ l) (r.2 v))

pub here : (bs : List ℕ) (i b : ℕ) → ahead (drop i bs) ≡ Some b → Here bs i b
here bs i b h =
    let r = here_suc bs i b h in
    record { inside = r.0; rest = rw add-one r.1; front = λ v. rw add-one (r.2 v) }

module _ {L : Form} {bs : List ℕ} {i : ℕ} {e : List Item} where
  pub step : (b : ℕ) (K : Form) → ahead (drop i bs) ≡ Some b → After L bs i e (byte b then K) → After L bs (i + 1) e K
  step b K a h =
      let r = here bs i b a in
      record {
        within = omega (arith, r.inside);
        sound = λ v o x. subst (λ (w : List ℕ). Line L w (e ++ o)) (sym (r.front v)) (h.sound (b ∷ v) o (byte_in b K i v o x));
        complete = λ v o n x.
            let y = h.complete (b ∷ v) o (sym a) (subst (λ (w : List ℕ). Line L w o) (r.front v) x) in
            (y.0, y.1, (byte_out b b K i v y.0 y.2).1);
      }

  pub step_mark : (b : ℕ) (K : Form) → ahead (drop i bs) ≡ Some b → After L bs i e (mark b then K) → After L bs (i + 1) (e ++ item i (symbol b) ∷ []) K
  step_mark b K a h =
      let r = here bs i b a in
      let x = item i (symbol b) in
      record {
        within = omega (arith, r.inside);
        sound = λ v o y. subst (λ (w : List ℕ). Line L w ((e ++ x ∷ []) ++ o)) (sym (r.front v))
            (subst (λ (q : List Item). Line L (take i bs ++ (b ∷ v)) q) (sym (append_assoc e (x ∷ []) o)) (h.sound (b ∷ v) (x ∷ o) (y.0, (at (i + 1) v o, (refl, refl), y.1))));
        complete = λ v o n y.
            let z = h.complete (b ∷ v) o (sym a) (subst (λ (w : List ℕ). Line L w o) (r.front v) y) in
            let m = (mark_out b b K i v z.0 z.2).1 in
            (m.0, z.1 ∙ ap (λ (q : List Item). e ++ q) m.1 ∙ sym (append_assoc e (x ∷ []) m.0), m.2);
      }

-- a beginning of what begins a line begins one too
cut : (bs : List ℕ) (p q : ℕ) → p ≤ q → (w : List ℕ) × (take q bs ≡ take p bs ++ w)
cut bs zero q h = (take q bs, refl)
cut bs (suc p) zero h = absurd (omega arith)
cut [] (suc p) (suc q) h = ([], refl)
cut (x ∷ bs) (suc p) (suc q) h =
    let r = cut bs p q (omega arith) in
    (r.0, ap {B = List ℕ} (λ l. x ∷ l) r.1)

shorter : (L : Form) (bs : List ℕ) (p q : ℕ) → p ≤ q → Viable L (take q bs) → Viable L (take p bs)
shorter L bs p q h x =
    let r = cut bs p q h in
    (r.0 ++ x.0, x.1, subst (λ (w : List ℕ). Line L w x.1) (ap (λ (l : List ℕ). l ++ x.0) r.1 ∙ append_assoc (take p bs) r.0 x.0) x.2)

-- no line of the form goes on after i by what comes next
pub wrong_at : {L : Form} {bs : List ℕ} {i : ℕ} → i ≤ length bs → Viable L (take i bs) → ((v : List ℕ) (o : List Item) → ahead v ≡ ahead (drop i bs) → Line L (take i bs ++ v) o → ⊥) → Wrong L bs i
wrong_at {L} {bs} {i} le begins none =
    record {
      refused = λ o x. none (drop i bs) o refl (subst (λ (w : List ℕ). Line L w o) (sym (take-append-drop i bs)) x);
      within = le;
      viable = begins;
      longest = λ q in_line x.
          ⊎_elim
          (λ lt.
          let next = sym (ahead_at bs i (omega arith)) in
          let y = shorter L bs (i + 1) q (omega arith) x in
          absurd (none (get_or bs i 0 ∷ y.0) y.1 (sym next) (subst (λ (w : List ℕ). Line L w y.1) ((here bs i _ next).front y.0) y.2)))
          (λ le'. le')
          (order i q);
    }

module _ {L : Form} {bs : List ℕ} {i : ℕ} {e : List Item} where
  -- no text of the form goes on by what comes next
  pub fail : (F : Form) → After L bs i e F → Shuns F (ahead (drop i bs)) → Wrong L bs i
  fail F h none =
      let s = some_end F i in
      wrong_at h.within (s.0, e ++ s.1, h.sound s.0 s.1 s.2)
      (λ v o a x. let y = h.complete v o a x in none.never i v y.0 a y.2)

  -- at the end of the line
  pub done : (F : Form) → After L bs i e F → length bs ≤ i → (o : List Item) → Line L bs o → (p : List Item) × (o ≡ e ++ p) × Ends F i [] p
  done F h past o x = h.complete [] o (ahead_past bs i past) (subst (λ (w : List ℕ). Line L w o) (sym (append-nil (take i bs) ∙ take_all i bs past)) x)

-- none, or one and then more
pub many_split : (F K : Form) (i : ℕ) (v : List ℕ) (o : List Item) → Ends (many F then K) i v o → Ends K i v o ⊎ Ends (F then many F then K) i v o
many_split F K i v o x = go x.1.1.0 x.1.1.1
  where
    go : (k : ℕ) → Times (Reads F) k (at i v o) x.1.0 → Ends K i v o ⊎ Ends (F then many F then K) i v o
    go zero t = inl (x.0, subst (λ (s : Point). Reads K s (at x.0 [] [])) (sym t) x.1.2)
    go (suc k) t = inr (x.0, (t.0, t.1, (x.1.0, (k, t.2), x.1.2)))

pub start : (L : Form) (bs : List ℕ) → After L bs 0 [] L
start L bs = record { within = omega arith; sound = λ v o x. x; complete = λ v o a x. (o, refl, x) }

-- all read
pub all_read : {L : Form} {bs : List ℕ} {i : ℕ} {e : List Item} → After L bs i e nothing → length bs ≤ i → Line L bs e
all_read {L} {bs} {i} {e} h past =
    subst (λ (w : List ℕ). Line L w e) (append-nil (take i bs) ∙ take_all i bs past) (subst (λ (o : List Item). Line L (take i bs ++ []) o) (append-nil e) (h.sound [] [] (i, refl)))

-- two bytes that differ
pub differ : (a b : ℕ) → (a ≡ b → ⊥) → Some a ≡ Some b → ⊥
differ a b no-e q = no-e (cc)
