-- A number in a line. Assumes nothing.
use Rattle.std.proofs.Common.{◌≡◌, ℕ, zero, suc, ◌+◌, ◌-◌, ◌*◌, ◌<◌, ◌≤◌, min, ◌⊎◌, List, [], ◌∷◌, ◌++◌, length, take, drop, ℤ, pos, ◌-ℤ◌, neg_ℤ, Some, Option, sym, refl, ap, ◌∙◌, subst, inl, inr, ⊎_elim, append_assoc, arith, length-append, take-append-drop, w32, to_z, of_z}
use Rattle.std.proofs.lemmas.Int.{ints}
use Rattle.std.proofs.lemmas.List.{take_at, length-take-le}
use Rattle.forms.specs.Number.{Digit, Digits, Natural, denoted, Integer}
use Rattle.forms.specs.Form.{Form, number, ◌then◌, figure, Item, item, Point, at, Reads, Ends, Line, Wrong}
use Rattle.forms.specs.Progress.{ahead, After, DigitFree, NoDigit, DigitsRead, DigitsSoFar}
use Rattle.forms.specs.Range.{clip}
use Rattle.forms.specs.Progress.{is_digit}
use Rattle.forms.proofs.Steps.{some_end, wrong_at, here, differ}
use Rattle.forms.proofs.Onto.{shuns, digit_is, first_digit}

-- two runs of digits, each all that come
run_unique : (xs ys v t : List ℕ) → Digits xs → Digits ys → xs ++ v ≡ ys ++ t → NoDigit (ahead v) → NoDigit (ahead t) → (xs ≡ ys) × (v ≡ t)
run_unique [] [] v t p q e nv nt = (refl, e)
run_unique [] (y ∷ ys) v t p q e nv nt = absurd (nv y q.0 (ap ahead e))
run_unique (x ∷ xs) [] v t p q e nv nt = absurd (nt x p.0 (ap ahead (sym e)))
run_unique (x ∷ xs) (y ∷ ys) v t p q e nv nt =
    let head : x ≡ y = cc in
    let tail : xs ++ v ≡ ys ++ t = cc in
    let r = run_unique xs ys v t p.1 q.1 tail nv nt in
    (let s = r.0 in cc, r.1)

natural_unique : (u w v t : List ℕ) → Natural u → Natural w → u ++ v ≡ w ++ t → (u ≡ 48 ∷ []) ⊎ NoDigit (ahead v) → NoDigit (ahead t) → (u ≡ w) × (v ≡ t)
natural_unique [] w v t p q e nv nt = absurd p
natural_unique (b ∷ bs) [] v t p q e nv nt = absurd q
natural_unique (b ∷ bs) (c ∷ cs) v t p q e nv nt =
    let head : b ≡ c = cc in
    let tail : bs ++ v ≡ cs ++ t = cc in
    ⊎_elim
    (λ zero_b. ⊎_elim
    (λ zero_c.
    let s : bs ≡ cs = zero_b.1 ∙ sym zero_c.1 in
    let r : v ≡ t = ap (λ (l : List ℕ). l ++ v) (sym zero_b.1) ∙ tail ∙ ap (λ (l : List ℕ). l ++ t) zero_c.1 in
    (cc, r))
    (λ more_c. absurd (omega arith))
    q)
    (λ more_b. ⊎_elim
    (λ zero_c. absurd (omega arith))
    (λ more_c.
    ⊎_elim
    (λ same. let z : b ≡ 48 = cc in absurd (omega arith))
    (λ none. let r = run_unique bs cs v t more_b.2 more_c.2 tail none nt in (let s = r.0 in cc, r.1))
    nv)
    q)
    p

-- u is the one number that stands before v, if nothing after a number is a digit
pub Alone : List ℕ → ℤ → Option ℕ → Type 0
Alone u z c = (v : List ℕ) → ahead v ≡ c → (w : List ℕ) (y : ℤ) (t : List ℕ) → Integer w y → u ++ v ≡ w ++ t → NoDigit (ahead t) → (u ≡ w) × (v ≡ t) × (z ≡ y)

pub plain_alone : (d : List ℕ) (c : Option ℕ) → Natural d → (d ≡ 48 ∷ []) ⊎ NoDigit c → Alone d (pos (denoted 0 d)) c
unfolding Alone
plain_alone d c nat ended v a w y t int e nt =
    ⊎_elim
    (λ p.
    let r = natural_unique d w v t nat p.0 e (subst (λ (k : Option ℕ). (d ≡ 48 ∷ []) ⊎ NoDigit k) (sym a) ended) nt in
    (r.0, r.1, ap (λ (l : List ℕ). pos (denoted 0 l)) r.0 ∙ sym p.1))
    (λ m.
    let f = first_digit d v nat in
    let g : Some f.0 ≡ Some 45 = sym f.2 ∙ ap ahead (e ∙ ap (λ (l : List ℕ). l ++ t) m.1) in
    absurd (differ f.0 45 (omega (arith, f.1)) g))
    int

pub minus_alone : (d : List ℕ) (c : Option ℕ) → Natural d → (d ≡ 48 ∷ []) ⊎ NoDigit c → Alone (45 ∷ d) (neg_ℤ (pos (denoted 0 d))) c
unfolding Alone
minus_alone d c nat ended v a w y t int e nt =
    ⊎_elim
    (λ p.
    let f = first_digit w t p.0 in
    let g : Some f.0 ≡ Some 45 = sym f.2 ∙ ap ahead (sym e) in
    absurd (differ f.0 45 (omega (arith, f.1)) g))
    (λ m.
    let e' : 45 ∷ (d ++ v) ≡ 45 ∷ (m.0 ++ t) = e ∙ ap (λ (l : List ℕ). l ++ t) m.1 in
    let tail : d ++ v ≡ m.0 ++ t = cc in
    let r = natural_unique d m.0 v t nat m.2 tail (subst (λ (k : Option ℕ). (d ≡ 48 ∷ []) ⊎ NoDigit k) (sym a) ended) nt in
    (ap {B = List ℕ} (λ l. 45 ∷ l) r.0 ∙ sym m.1, r.1, ap (λ (l : List ℕ). neg_ℤ (pos (denoted 0 l))) r.0 ∙ sym m.3))
    int

front_more : (bs u : List ℕ) (i j : ℕ) → i ≤ length bs → drop i bs ≡ u ++ drop j bs → j ≡ i + length u → (take j bs ≡ take i bs ++ u) × (j ≤ length bs)
front_more bs u i j le e r =
    let whole : bs ≡ (take i bs ++ u) ++ drop j bs = sym (take-append-drop i bs) ∙ ap (λ (l : List ℕ). take i bs ++ l) e ∙ sym (append_assoc (take i bs) u (drop j bs)) in
    let long : length (take i bs ++ u) ≡ j = length-append (take i bs) u ∙ ap (λ (n : ℕ). n + length u) (length-take-le i bs le) ∙ sym r in (
      ap (take j) whole ∙ take_at (take i bs ++ u) (drop j bs) j long,
      omega (arith, ap length whole, length-append (take i bs ++ u) (drop j bs)),
    )

ahead-append : (u v r : List ℕ) → ahead v ≡ ahead r → ahead (u ++ v) ≡ ahead (u ++ r)
ahead-append [] v r a = a
ahead-append (x ∷ u) v r a = refl

-- what is next to a number that K follows is no digit
after_clean : (K : Form) → DigitFree K → (m : Point) (n : ℕ) → Reads K m (at n [] []) → NoDigit (ahead m.text)
after_clean K clean m n r d is a = (shuns is_digit K clean d (digit_is d is)).never m.index m.text m.items a (n, r)

module _ {L : Form} {bs : List ℕ} {i : ℕ} {e : List Item} where
  pub number_on : {K : Form} (j : ℕ) (u : List ℕ) (z : ℤ) → Integer u z → Alone u z (ahead (drop j bs)) → DigitFree K → drop i bs ≡ u ++ drop j bs → j ≡ i + length u → After L bs i e (number then K) → After L bs j (e ++ item i (figure z) ∷ []) K
  unfolding Alone
  number_on {K} j u z int alone clean rest reach h =
      let f = front_more bs u i j h.within rest reach in
      let joins : (v : List ℕ) → take i bs ++ (u ++ v) ≡ take j bs ++ v = λ v. sym (append_assoc (take i bs) u v) ∙ ap (λ (l : List ℕ). l ++ v) (sym f.0) in
      record {
        within = f.1;
        sound = λ v o x.
            let y : Ends (number then K) i (u ++ v) (item i (figure z) ∷ o) = (x.0, (at j v o, (u, z, int, refl, reach), x.1)) in
            let l = h.sound (u ++ v) (item i (figure z) ∷ o) y in
            subst (λ (w : List ℕ). Line L w ((e ++ item i (figure z) ∷ []) ++ o)) (joins v) (subst (λ (q : List Item). Line L (take i bs ++ (u ++ v)) q) (sym (append_assoc e (item i (figure z) ∷ []) o)) l);
        complete = λ v o a x.
            let y = h.complete (u ++ v) o (ahead-append u v (drop j bs) a ∙ ap ahead (sym rest)) (subst (λ (w : List ℕ). Line L w o) (sym (joins v)) x) in
            let m = y.2.1.0 in
            let t = y.2.1.1 in
            let texts : u ++ v ≡ t.0 ++ m.text = ap (λ (s : Point). s.text) t.3 in
            let items : y.0 ≡ item i (figure t.1) ∷ m.items = ap (λ (s : Point). s.items) t.3 in
            let same = alone v a t.0 t.1 m.text t.2 texts (after_clean K clean m y.2.0 y.2.1.2) in
            let point : m ≡ at j v m.items = λ k. at ((t.4 ∙ ap (λ (l : List ℕ). i + length l) (sym same.0) ∙ sym reach) k) (sym same.1 k) m.items in (
              m.items,
              y.1 ∙ ap (λ (q : List Item). e ++ q) (items ∙ ap (λ (k : ℤ). item i (figure k) ∷ m.items) (sym same.2)) ∙ sym (append_assoc e (item i (figure z) ∷ []) m.items),
              (y.2.0, subst (λ (s : Point). Reads K s (at y.2.0 [] [])) point y.2.1.2),
            );
      }

module _ {L : Form} {bs : List ℕ} {i : ℕ} {e : List Item} where
  -- a minus, and no digit
  pub minus_stuck : {K : Form} → ahead (drop i bs) ≡ Some 45 → NoDigit (ahead (drop (i + 1) bs)) → After L bs i e (number then K) → Wrong L bs (i + 1)
  minus_stuck {K} a no-d h =
      let r = here bs i 45 a in
      let s = some_end K (i + 2) in
      let z : ℤ = pos 0 in
      let y : Ends (number then K) i (45 ∷ 48 ∷ s.0) (item i (figure z) ∷ s.1) =
      (s.2.0, (at (i + 2) s.0 s.1, (45 ∷ 48 ∷ [], z, inr (48 ∷ [], refl, inl (refl, refl), refl), refl, refl), s.2.1)) in
      wrong_at (omega (arith, r.inside))
      (48 ∷ s.0, e ++ item i (figure z) ∷ s.1, subst (λ (w : List ℕ). Line L w (e ++ item i (figure z) ∷ s.1)) (sym (r.front (48 ∷ s.0))) (h.sound (45 ∷ 48 ∷ s.0) (item i (figure z) ∷ s.1) y))
      (λ v o n x.
      let w = h.complete (45 ∷ v) o (sym a) (subst (λ (l : List ℕ). Line L l o) (r.front v) x) in
      let m = w.2.1.0 in
      let t = w.2.1.1 in
      let texts : 45 ∷ v ≡ t.0 ++ m.text = ap (λ (p : Point). p.text) t.3 in
      ⊎_elim
      (λ p. let f = first_digit t.0 m.text p.0 in differ f.0 45 (omega (arith, f.1)) (sym f.2 ∙ ap ahead (sym texts)))
      (λ q.
      let again : 45 ∷ v ≡ 45 ∷ (q.0 ++ m.text) = texts ∙ ap (λ (l : List ℕ). l ++ m.text) q.1 in
      let tail : v ≡ q.0 ++ m.text = cc in
      let f = first_digit q.0 m.text q.2 in
      no-d f.0 f.1 (sym n ∙ ap ahead tail ∙ f.2))
      t.2)

-- one more digit
pub digits_push : (ds : List ℕ) (b : ℕ) → Digits ds → Digit b → Digits (ds ++ b ∷ [])
digits_push [] b p q = (q, tt)
digits_push (x ∷ ds) b p q = (p.0, digits_push ds b p.1 q)

pub denoted-push : (n : ℕ) (ds : List ℕ) (b : ℕ) → denoted n (ds ++ b ∷ []) ≡ denoted n ds * 10 + (b - 48)
denoted-push n [] b = refl
denoted-push n (x ∷ ds) b = denoted-push (n * 10 + (x - 48)) ds b

-- a zero, and nothing more of the number
pub zero_counted : (bs : List ℕ) (i d limit : ℕ) → d ≡ 0 → ahead (drop i bs) ≡ Some (48 + d) → DigitsRead bs i (i + 1) 0 limit
zero_counted bs i d limit z a =
    record {
      digits = 48 ∷ [];
      natural = inl (refl, refl);
      amount = omega arith;
      front = (here bs i 48 (a ∙ ap {B = Option ℕ} (λ k. Some (48 + k)) z)).rest;
      reach = refl;
      all = inl refl;
    }

-- before any more digits
pub none_counting : (bs : List ℕ) (i first limit : ℕ) → first < limit → DigitsSoFar bs i first i first limit
none_counting bs i first limit h = record { more = []; are = tt; amount = omega arith; front = refl; reach = omega arith }

pub counting_more : (bs : List ℕ) (i first j m d n limit : ℕ) → DigitsSoFar bs i first j m limit → d < 10 → ahead (drop j bs) ≡ Some (48 + d) → n ≡ min (m * 10 + d) limit → DigitsSoFar bs i first (j + 1) n limit
counting_more bs i first j m d n limit h lt a is =
    record {
      more = h.more ++ (48 + d) ∷ [];
      are = digits_push h.more (48 + d) h.are (omega arith);
      amount = omega (arith, denoted-push first h.more (48 + d), h.amount);
      front = h.front ∙ ap (λ (l : List ℕ). h.more ++ l) (here bs j (48 + d) a).rest ∙ sym (append_assoc h.more ((48 + d) ∷ []) (drop (j + 1) bs));
      reach = omega (arith, h.reach, length-append h.more ((48 + d) ∷ []));
    }

pub all_counted : (bs : List ℕ) (i first j m limit : ℕ) → DigitsSoFar bs (i + 1) first j m limit → (first ≡ 0 → ⊥) → first < 10 → ahead (drop i bs) ≡ Some (48 + first) → NoDigit (ahead (drop j bs)) → DigitsRead bs i j m limit
all_counted bs i first j m limit h some lt a none =
    let same : 0 * 10 + (48 + first - 48) ≡ first = omega arith in
    record {
      digits = (48 + first) ∷ h.more;
      natural = inr (omega arith, omega arith, h.are);
      amount = h.amount ∙ ap (λ (k : ℕ). min (denoted k h.more) limit) (sym same);
      front = (here bs i (48 + first) a).rest ∙ ap {B = List ℕ} (λ l. (48 + first) ∷ l) h.front;
      reach = omega (arith, h.reach);
      all = inr none;
    }

-- what is read of a number: its text is u
pub record Read (bs : List ℕ) (i j : ℕ) (v : ℤ) : Type 0 where
  pub denotes : ℤ
  pub clipped : clip denotes ≡ v
  pub reads : (L K : Form) (e : List Item) → DigitFree K → After L bs i e (number then K) → After L bs j (e ++ item i (figure denotes) ∷ []) K

pub plain_numbered : (bs : List ℕ) (i j m : ℕ) (v : ℤ) → DigitsRead bs i j m 1000000000 → v ≡ pos m → Read bs i j v
plain_numbered bs i j m v h is =
    record {
      denotes = pos (denoted 0 h.digits);
      clipped = ap pos (sym h.amount) ∙ sym is;
      reads = λ L K e clean k. number_on j h.digits _ (inl (h.natural, refl)) (plain_alone h.digits _ h.natural h.all) clean h.front h.reach k;
    }

clip_minus : (n : ℕ) → clip (neg_ℤ (pos n)) ≡ neg_ℤ (pos (min n 1000000000))
clip_minus zero = refl
clip_minus (suc n) = refl

pub minus_numbered : (bs : List ℕ) (i j m : ℕ) (v : ℤ) → ahead (drop i bs) ≡ Some 45 → DigitsRead bs (i + 1) j m 1000000000 → v ≡ neg_ℤ (pos m) → Read bs i j v
minus_numbered bs i j m v a h is =
    record {
      denotes = neg_ℤ (pos (denoted 0 h.digits));
      clipped = clip_minus (denoted 0 h.digits) ∙ ap (λ (k : ℕ). neg_ℤ (pos k)) (sym h.amount) ∙ sym is;
      reads = λ L K e clean k.
          number_on j (45 ∷ h.digits) _ (inr (h.digits, refl, h.natural, refl)) (minus_alone h.digits _ h.natural h.all) clean
          ((here bs i 45 a).rest ∙ ap {B = List ℕ} (λ l. 45 ∷ l) h.front) (omega (arith, h.reach)) k;
    }

-- what a cast of a magnitude gives, and of its opposite
pub plain_cast : (m : ℕ) → m ≤ 1000000000 → to_z w32 m ≡ pos m
plain_cast m h = omega (arith, ints)

pub minus_cast : (m : ℕ) → m ≤ 1000000000 → to_z w32 (of_z w32 (pos 0 -ℤ to_z w32 m)) ≡ neg_ℤ (pos m)
minus_cast m h = omega (arith, ints)
