-- A form before another, in one row, and the bytes that a form can begin with. Assumes nothing.
use Rattle.std.proofs.Common.{◌≡◌, ℕ, zero, suc, ◌+◌, ◌<◌, ◌≤◌, Bool, true, false, cond, ◌⊎◌, List, [], ◌∷◌, ◌++◌, drop, Some, None, Option, sym, refl, ap, ◌∙◌, subst, inl, inr, ⊎_elim, arith}
use Rattle.std.proofs.str.Laws.{order}
use Rattle.forms.specs.Number.{Digit, Natural}
use Rattle.forms.specs.Form.{Form, nothing, byte, mark, number, ◌then◌, ◌or◌, many, Item, Point, at, Times, Reads, Ends, Wrong}
use Rattle.forms.specs.Array.{blanks}
use Rattle.forms.specs.Progress.{ahead, After, Shuns, BlankFree, onto, nullable, firsts, from, none, is_blank, is_digit, NoDigit, Blank, BlankNext}
use Rattle.forms.proofs.Steps.{narrow, many_split, fail, step, mark_end, mark_out, byte_end, byte_out, differ}

pub flat : (F K : Form) (s : Point) (n : ℕ) → Reads (F then K) s (at n [] []) → Reads (onto F K) s (at n [] [])
flat nothing K s n x = subst (λ (p : Point). Reads K p (at n [] [])) (sym x.1) x.2
flat (byte b) K s n x = x
flat (mark b) K s n x = x
flat number K s n x = x
flat (F then G) K s n x = flat F (onto G K) s n (x.1.0, x.1.1, flat G K x.1.0 n (x.0, x.1.2, x.2))
flat (F or G) K s n x = ⊎_elim (λ f. inl (flat F K s n (x.0, f, x.2))) (λ g. inr (flat G K s n (x.0, g, x.2))) x.1
flat (many F) K s n x = x

pub unflat : (F K : Form) (s : Point) (n : ℕ) → Reads (onto F K) s (at n [] []) → Reads (F then K) s (at n [] [])
unflat nothing K s n x = (s, refl, x)
unflat (byte b) K s n x = x
unflat (mark b) K s n x = x
unflat number K s n x = x
unflat (F then G) K s n x =
    let y = unflat F (onto G K) s n x in
    let z = unflat G K y.0 n y.2 in
    (z.0, (y.0, y.1, z.1), z.2)
unflat (F or G) K s n x =
    ⊎_elim
    (λ f. let y = unflat F K s n f in (y.0, inl y.1, y.2))
    (λ g. let y = unflat G K s n g in (y.0, inr y.1, y.2))
    x
unflat (many F) K s n x = x

-- a natural begins with a digit
pub first_digit : (u v : List ℕ) → Natural u → (d : ℕ) × Digit d × (ahead (u ++ v) ≡ Some d)
first_digit [] v p = absurd p
first_digit (b ∷ bs) v p = (b, ⊎_elim (λ z. omega arith) (λ m. omega arith) p, refl)

-- none of these fits p
cond-false : (b c : Bool) → cond b false c ≡ true → (b ≡ false) × (c ≡ true)
cond-false true c h = cc
cond-false false c h = (refl, h)

none-append : (p : ℕ → Bool) (a b : List ℕ) → none p (a ++ b) ≡ true → (none p a ≡ true) × (none p b ≡ true)
none-append p [] b h = (refl, h)
none-append p (x ∷ a) b h =
    let c = cond-false (p x) (none p (a ++ b)) h in
    let r = none-append p a b c.1 in
    ((λ i. cond (c.0 i) false (r.0 i)), r.1)

from_none : (p : ℕ → Bool) (n a b : ℕ) → a ≤ b → b < a + n → none p (from a n) ≡ true → p b ≡ false
from_none p zero a b low high h = absurd (omega arith)
from_none p (suc n) a b low high h =
    let c = cond-false (p a) (none p (from (suc a) n)) h in
    ⊎_elim
    (λ lt. from_none p n (suc a) b (omega arith) (omega arith) c.1)
    (λ le. let same : b ≡ a = omega arith in ap p same ∙ c.0)
    (order a b)

-- a text of the form begins with one of these bytes, or is empty
abbrev Opens : (ℕ → Bool) → Bool → List ℕ → List ℕ → Type 0
Opens p empty w v = ((b : ℕ) × (ahead w ≡ Some b) × (p b ≡ false)) ⊎ ((empty ≡ true) × (w ≡ v))

either : (a b : Bool) → b ≡ true → cond a true b ≡ true
either true b h = refl
either false b h = h

opens_times : (p : ℕ → Bool) (F : Form) (one : (s t : Point) → Reads F s t → Opens p (nullable F) s.text t.text) (k : ℕ) (s t : Point) → Times (Reads F) k s t → Opens p true s.text t.text
opens_times p F one zero s t x = inr (refl, ap (λ (q : Point). q.text) x)
opens_times p F one (suc k) s t x =
    ⊎_elim
    (λ f. inl f)
    (λ f. ⊎_elim (λ y. inl (y.0, ap ahead f.1 ∙ y.1, y.2)) (λ y. inr (refl, f.1 ∙ y.1)) (opens_times p F one k x.0 t x.2))
    (one s x.0 x.1)

opens : (p : ℕ → Bool) (F : Form) (s t : Point) → Reads F s t → none p (firsts F) ≡ true → Opens p (nullable F) s.text t.text
opens p nothing s t x h = inr (refl, ap (λ (q : Point). q.text) x)
opens p (byte b) s t x h = inl (b, ap (λ (q : Point). ahead q.text) x.0, (cond-false (p b) true h).0)
opens p (mark b) s t x h = inl (b, ap (λ (q : Point). ahead q.text) x.0, (cond-false (p b) true h).0)
opens p number s t x h =
    let c = cond-false (p 45) (none p (from 48 10)) h in
    ⊎_elim
    (λ n. let d = first_digit x.0 t.text n.0 in inl (d.0, ap (λ (q : Point). ahead q.text) x.3 ∙ d.2, from_none p 10 48 d.0 d.1.0 (omega (arith, d.1.1)) c.1))
    (λ m. inl (45, ap (λ (q : Point). ahead q.text) x.3 ∙ ap (λ (l : List ℕ). ahead (l ++ t.text)) m.1, c.0))
    x.2
opens p (F then G) s t x h =
    let n = none-append p (firsts F) (cond (nullable F) (firsts G) []) h in
    ⊎_elim
    (λ f. inl f)
    (λ f.
    let g : none p (firsts G) ≡ true = ap (λ (b : Bool). none p (cond b (firsts G) [])) (sym f.0) ∙ n.1 in
    ⊎_elim
    (λ y. inl (y.0, ap ahead f.1 ∙ y.1, y.2))
    (λ y. inr (ap (λ (b : Bool). cond b (nullable G) false) f.0 ∙ y.0, f.1 ∙ y.1))
    (opens p G x.0 t x.2 g))
    (opens p F s x.0 x.1 n.0)
opens p (F or G) s t x h =
    let n = none-append p (firsts F) (firsts G) h in
    ⊎_elim
    (λ f. ⊎_elim (λ y. inl y) (λ y. inr (ap (λ (b : Bool). cond b true (nullable G)) y.0, y.1)) (opens p F s t f n.0))
    (λ g. ⊎_elim (λ y. inl y) (λ y. inr (either (nullable F) (nullable G) y.0, y.1)) (opens p G s t g n.1))
    x
opens p (many F) s t x h = opens_times p F (λ a b y. opens p F a b y h) x.0 s t x.1

pub shuns : (p : ℕ → Bool) (F : Form) → none p (firsts F) ≡ true → (b : ℕ) → p b ≡ true → Shuns F (Some b)
shuns p F h b is =
    record {
      never = λ i v o a x.
          ⊎_elim
          (λ y.
          let both : Some y.0 ≡ Some b = sym y.1 ∙ a in
          let same : y.0 ≡ b = cc in
          let clash : true ≡ false = sym is ∙ ap p (sym same) ∙ y.2 in
          cc)
          (λ y.
          let both : None ≡ Some b = ap ahead (sym y.1) ∙ a in
          cc)
          (opens p F (at i v o) (at x.0 [] []) x.1 h);
    }

pub digit_is : (d : ℕ) → Digit d → is_digit d ≡ true
digit_is d is = grind arith

pub shuns_mark : {c : Option ℕ} {b : ℕ} {K : Form} → (c ≡ Some b → ⊥) → Shuns (mark b then K) c
shuns_mark {c} {b} {K} no-b = record { never = go }
  where
    go : (i : ℕ) (v : List ℕ) (o : List Item) → ahead v ≡ c → Ends (mark b then K) i v o → ⊥
    go i [] o a x = mark_end b K i o x
    go i (d ∷ v) o a x = no-b (sym a ∙ ap {B = Option ℕ} Some (mark_out b d K i v o x).0)

pub shuns_byte : {c : Option ℕ} {b : ℕ} {K : Form} → (c ≡ Some b → ⊥) → Shuns (byte b then K) c
shuns_byte {c} {b} {K} no-b = record { never = go }
  where
    go : (i : ℕ) (v : List ℕ) (o : List Item) → ahead v ≡ c → Ends (byte b then K) i v o → ⊥
    go i [] o a x = byte_end b K i o x
    go i (d ∷ v) o a x = no-b (sym a ∙ ap {B = Option ℕ} Some (byte_out b d K i v o x).0)

pub shuns_number : {c : Option ℕ} {K : Form} → NoDigit c → (c ≡ Some 45 → ⊥) → Shuns (number then K) c
shuns_number {c} {K} no-d no-m =
    record {
      never = λ i v o a x.
          let m = x.1.0 in
          let t = x.1.1 in
          let texts : v ≡ t.0 ++ m.text = ap (λ (s : Point). s.text) t.3 in
          ⊎_elim
          (λ p. let f = first_digit t.0 m.text p.0 in no-d f.0 f.1 (sym a ∙ ap ahead texts ∙ f.2))
          (λ q. no-m (sym a ∙ ap ahead (texts ∙ ap (λ (l : List ℕ). l ++ m.text) q.1)))
          t.2;
    }

pub shuns_either : {c : Option ℕ} {A B : Form} → Shuns A c → Shuns B c → Shuns (A or B) c
shuns_either f g = record { never = λ i v o a x. ⊎_elim (λ y. f.never i v o a (x.0, y)) (λ y. g.never i v o a (x.0, y)) x.1 }

-- where c comes next
module _ {L : Form} {bs : List ℕ} {i : ℕ} {e : List Item} {c : Option ℕ} (n : ahead (drop i bs) ≡ c) where
  pub or_left : {A B : Form} → Shuns B c → After L bs i e (A or B) → After L bs i e A
  or_left {A} {B} no-b h =
      narrow A h (λ v o x. (x.0, inl x.1))
      (λ v o a x. ⊎_elim (λ f. (x.0, f)) (λ g. absurd (no-b.never i v o (a ∙ n) (x.0, g))) x.1)

  pub or_right : {A B : Form} → Shuns A c → After L bs i e (A or B) → After L bs i e B
  or_right {A} {B} no-a h =
      narrow B h (λ v o x. (x.0, inr x.1))
      (λ v o a x. ⊎_elim (λ f. absurd (no-a.never i v o (a ∙ n) (x.0, f))) (λ g. (x.0, g)) x.1)

  pub many_on : {F K : Form} → Shuns K c → After L bs i e (many F then K) → After L bs i e (onto F (many F then K))
  many_on {F} {K} no-k h =
      narrow (onto F (many F then K)) h
      (λ v o y. let x = unflat F (many F then K) (at i v o) y.0 y.1 in (y.0, (x.2.0, (suc x.2.1.0, (x.0, x.1, x.2.1.1)), x.2.2)))
      (λ v o a x. ⊎_elim (λ k. absurd (no-k.never i v o (a ∙ n) k)) (λ f. (f.0, flat F (many F then K) (at i v o) f.0 f.1)) (many_split F K i v o x))

  pub many_off : {F K : Form} → Shuns (onto F (many F then K)) c → After L bs i e (many F then K) → After L bs i e K
  many_off {F} {K} no-f h =
      narrow K h
      (λ v o x. (x.0, (at i v o, (0, refl), x.1)))
      (λ v o a x. ⊎_elim (λ k. k) (λ f. absurd (no-f.never i v o (a ∙ n) (f.0, flat F (many F then K) (at i v o) f.0 f.1))) (many_split F K i v o x))

  pub stuck : {F : Form} → Shuns F c → After L bs i e F → Wrong L bs i
  stuck {F} no-f h = fail F h (subst (Shuns F) (sym n) no-f)

module _ {L : Form} {bs : List ℕ} {i : ℕ} {e : List Item} where
  -- with nothing after it
  pub open_end : (F : Form) → After L bs i e F → After L bs i e (onto F nothing)
  open_end F h =
      narrow (onto F nothing) h
      (λ v o x. let y = unflat F nothing (at i v o) x.0 x.1 in (x.0, subst (λ (s : Point). Reads F (at i v o) s) y.2 y.1))
      (λ v o a x. (x.0, flat F nothing (at i v o) x.0 (at x.0 [] [], x.1, refl)))

  pub blank_on : {b : ℕ} {K : Form} → BlankFree K → Blank b → ahead (drop i bs) ≡ Some b → After L bs i e (blanks then K) → After L bs (i + 1) e (blanks then K)
  blank_on {b} {K} clear is a h =
      ⊎_elim
      (λ e32. let n = a ∙ ap {B = Option ℕ} Some e32 in
      step 32 (blanks then K) n (or_left n (shuns_either (shuns_byte (differ 32 9 (omega arith))) (shuns_byte (differ 32 13 (omega arith)))) (many_on n (shuns is_blank K clear 32 refl) h)))
      (⊎_elim
      (λ e9. let n = a ∙ ap {B = Option ℕ} Some e9 in
      step 9 (blanks then K) n (or_left n (shuns_byte (differ 9 13 (omega arith))) (or_right n (shuns_byte (differ 9 32 (omega arith))) (many_on n (shuns is_blank K clear 9 refl) h))))
      (λ e13. let n = a ∙ ap {B = Option ℕ} Some e13 in
      step 13 (blanks then K) n (or_right n (shuns_byte (differ 13 9 (omega arith))) (or_right n (shuns_byte (differ 13 32 (omega arith))) (many_on n (shuns is_blank K clear 13 refl) h)))))
      is

  pub blanks_off : {K : Form} → (BlankNext (drop i bs) → ⊥) → After L bs i e (blanks then K) → After L bs i e K
  blanks_off no-b h =
      many_off refl (shuns_either
      (shuns_byte (λ a. no-b (record { which = 32; is = inl refl; next = a })))
      (shuns_either
      (shuns_byte (λ a. no-b (record { which = 9; is = inr (inl refl); next = a })))
      (shuns_byte (λ a. no-b (record { which = 13; is = inr (inr refl); next = a }))))) h
