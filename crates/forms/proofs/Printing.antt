-- What is printed says what was printed. Assumes nothing.
use Rattle.std.proofs.Common.{◌≡◌, ℕ, List, [], ◌∷◌, ◌++◌, ℤ, sym, refl, ◌∙◌, append_assoc, append-nil, arith}
use Rattle.forms.specs.Form.{Token, figure, symbol}
use Rattle.forms.specs.Array.{among, parts, array, single, row_tokens}

-- the tokens of a value can be told from all that follows, and do not begin with ']'
pub record Sharp {A : Type 0} (f : A → List Token) : Type 0 where
  pub one : (x y : A) (u v : List Token) → f x ++ u ≡ f y ++ v → (x ≡ y) × (u ≡ v)
  pub opens : (x : A) (u v : List Token) → f x ++ u ≡ symbol 93 ∷ v → ⊥

pub symbols_differ : (a b : ℕ) (u v : List Token) → (a ≡ b → ⊥) → symbol a ∷ u ≡ symbol b ∷ v → ⊥
symbols_differ a b u v no-e h = no-e (cc)

single_one : (x y : ℤ) (u v : List Token) → figure x ∷ u ≡ figure y ∷ v → (x ≡ y) × (u ≡ v)
single_one x y u v h = (cc, cc)

single_opens : (x : ℤ) (u v : List Token) → figure x ∷ u ≡ symbol 93 ∷ v → ⊥
single_opens x u v h = cc

pub single_sharp : Sharp single
single_sharp = record { one = single_one; opens = single_opens }

tail_is : (x : Token) (u v : List Token) → x ∷ u ≡ x ∷ v → u ≡ v
tail_is x u v h = cc

module _ {A : Type 0} (f : A → List Token) (s : Sharp f) where
  among_one : (xs ys : List A) (u v : List Token) → among f xs ++ (symbol 93 ∷ u) ≡ among f ys ++ (symbol 93 ∷ v) → (xs ≡ ys) × (u ≡ v)
  among_one [] [] u v h = (refl, tail_is (symbol 93) u v h)
  among_one [] (y ∷ ys) u v h = absurd (symbols_differ 93 44 _ _ (λ e. omega arith) h)
  among_one (x ∷ xs) [] u v h = absurd (symbols_differ 44 93 _ _ (λ e. omega arith) h)
  among_one (x ∷ xs) (y ∷ ys) u v h =
      let inside : (f x ++ among f xs) ++ (symbol 93 ∷ u) ≡ (f y ++ among f ys) ++ (symbol 93 ∷ v) = tail_is (symbol 44) _ _ h in
      let o = s.one x y _ _ (sym (append_assoc (f x) (among f xs) (symbol 93 ∷ u)) ∙ inside ∙ append_assoc (f y) (among f ys) (symbol 93 ∷ v)) in
      let r = among_one xs ys u v o.1 in
      ((λ i. o.0 i ∷ r.0 i), r.1)

  parts_one : (xs ys : List A) (u v : List Token) → parts f xs ++ (symbol 93 ∷ u) ≡ parts f ys ++ (symbol 93 ∷ v) → (xs ≡ ys) × (u ≡ v)
  parts_one [] [] u v h = (refl, tail_is (symbol 93) u v h)
  parts_one [] (y ∷ ys) u v h = absurd (s.opens y (among f ys ++ (symbol 93 ∷ v)) u (sym (append_assoc (f y) (among f ys) (symbol 93 ∷ v)) ∙ sym h))
  parts_one (x ∷ xs) [] u v h = absurd (s.opens x (among f xs ++ (symbol 93 ∷ u)) v (sym (append_assoc (f x) (among f xs) (symbol 93 ∷ u)) ∙ h))
  parts_one (x ∷ xs) (y ∷ ys) u v h =
      let o = s.one x y _ _ (sym (append_assoc (f x) (among f xs) (symbol 93 ∷ u)) ∙ h ∙ append_assoc (f y) (among f ys) (symbol 93 ∷ v)) in
      let r = among_one xs ys u v o.1 in
      ((λ i. o.0 i ∷ r.0 i), r.1)

  array_one : (xs ys : List A) (u v : List Token) → array f xs ++ u ≡ array f ys ++ v → (xs ≡ ys) × (u ≡ v)
  array_one xs ys u v h =
      parts_one xs ys u v (sym (append_assoc (parts f xs) (symbol 93 ∷ []) u) ∙ tail_is (symbol 91) _ _ h ∙ append_assoc (parts f ys) (symbol 93 ∷ []) v)

  pub array_sharp : Sharp (array f)
  array_sharp = record { one = array_one; opens = λ xs u v h. symbols_differ 91 93 _ _ (λ e. omega arith) h }

  pub array_only : (xs ys : List A) → array f xs ≡ array f ys → xs ≡ ys
  array_only xs ys h = (array_one xs ys [] [] (append-nil (array f xs) ∙ h ∙ sym (append-nil (array f ys)))).0

pub row_sharp : Sharp row_tokens
row_sharp = array_sharp single single_sharp
