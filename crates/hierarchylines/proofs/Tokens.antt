-- What a hierarchy says is said by no other. Assumes nothing.
use Rattle.std.proofs.Common.{◌≡◌, ℕ, ◌+◌, List, [], ◌∷◌, ◌++◌, ℤ, sym, refl, ◌∙◌, append_assoc, arith}
use Rattle.forms.specs.Form.{Token, figure, symbol}
use Rattle.forms.specs.Array.{array, single, row_tokens}
use Rattle.forms.proofs.Lines.{says_once}
use Rattle.forms.proofs.Printing.{Sharp, single_sharp, row_sharp, array_sharp, symbols_differ}
use Rattle.tables.specs.Kind.{corners_of}
use Rattle.tables.specs.declared.kind.CellKind.{CellKind}
use Rattle.tables.specs.declared.kind.CellKind.TheVariants.{Segment, Triangle}
use Rattle.hierarchypass.specs.Line.{Hierarchy, Replacement, LineOf, replacement_tokens, body_tokens, tokens}

after_comma : (u v : List Token) → symbol 44 ∷ u ≡ symbol 44 ∷ v → u ≡ v
after_comma u v h = cc

after_error : (a b : ℤ) (u v : List Token) → symbol 91 ∷ (figure a ∷ (symbol 44 ∷ u)) ≡ symbol 91 ∷ (figure b ∷ (symbol 44 ∷ v)) → (a ≡ b) × (u ≡ v)
after_error a b u v h = (cc, cc)

after_end : (u v : List Token) → symbol 93 ∷ u ≡ symbol 93 ∷ v → u ≡ v
after_end u v h = cc

after_kind : (a b : ℕ) (u v : List Token) → symbol 91 ∷ (symbol (48 + a) ∷ u) ≡ symbol 91 ∷ (symbol (48 + b) ∷ v) → (a ≡ b) × (u ≡ v)
after_kind a b u v h = (let e : 48 + a ≡ 48 + b = cc in omega arith, cc)

same_kind : (a b : CellKind) → corners_of a ≡ corners_of b → a ≡ b
same_kind Segment Segment e = refl
same_kind Segment Triangle e = absurd (omega arith)
same_kind Triangle Segment e = absurd (omega arith)
same_kind Triangle Triangle e = refl

-- two arrays, with a comma between and the end after them
two_arrays : (t t' : List ℤ) (m m' : List (List ℤ)) (u v : List Token) → (array single t ++ (symbol 44 ∷ (array row_tokens m ++ symbol 93 ∷ []))) ++ u ≡ (array single t' ++ (symbol 44 ∷ (array row_tokens m' ++ symbol 93 ∷ []))) ++ v → (t ≡ t') × (m ≡ m') × (u ≡ v)
two_arrays t t' m m' u v h =
    let a = (array_sharp single single_sharp).one t t' ((symbol 44 ∷ (array row_tokens m ++ symbol 93 ∷ [])) ++ u) ((symbol 44 ∷ (array row_tokens m' ++ symbol 93 ∷ [])) ++ v)
    (sym (append_assoc (array single t) (symbol 44 ∷ (array row_tokens m ++ symbol 93 ∷ [])) u) ∙ h ∙ append_assoc (array single t') (symbol 44 ∷ (array row_tokens m' ++ symbol 93 ∷ [])) v) in
    let c = after_comma ((array row_tokens m ++ symbol 93 ∷ []) ++ u) ((array row_tokens m' ++ symbol 93 ∷ []) ++ v) a.1 in
    let b = (array_sharp row_tokens row_sharp).one m m' (symbol 93 ∷ u) (symbol 93 ∷ v)
    (sym (append_assoc (array row_tokens m) (symbol 93 ∷ []) u) ∙ c ∙ append_assoc (array row_tokens m') (symbol 93 ∷ []) v) in
    (a.0, b.0, after_end u v b.1)

replacement_one : (x y : Replacement) (u v : List Token) → replacement_tokens x ++ u ≡ replacement_tokens y ++ v → (x ≡ y) × (u ≡ v)
replacement_one x y u v h =
    let e = after_error x.error y.error _ _ h in
    let r = two_arrays x.taken y.taken x.made y.made u v e.1 in
    ((λ i. record { error = e.0 i; taken = r.0 i; made = r.1 i }), r.2)

replacement_sharp : Sharp replacement_tokens
replacement_sharp = record { one = replacement_one; opens = λ x u v h. symbols_differ 91 93 _ _ (λ e. omega arith) h }

tokens_only : (g h : Hierarchy) → tokens g ≡ tokens h → g ≡ h
tokens_only g h e =
    let k = after_kind (corners_of g.kind) (corners_of h.kind) (body_tokens g.vertices g.base g.replacements) (body_tokens h.vertices h.base h.replacements) e in
    let v = (array_sharp row_tokens row_sharp).one g.vertices h.vertices _ _ (after_comma _ _ k.1) in
    let b = (array_sharp row_tokens row_sharp).one g.base h.base _ _ (after_comma _ _ v.1) in
    let r = (array_sharp replacement_tokens replacement_sharp).one g.replacements h.replacements _ _ (after_comma _ _ b.1) in
    let kind = same_kind g.kind h.kind k.0 in
    λ i. record { kind = kind i; vertices = v.0 i; base = b.0 i; replacements = r.0 i }

pub one_hierarchy : {bs : List ℕ} (g h : Hierarchy) → LineOf bs g → LineOf bs h → g ≡ h
one_hierarchy g h x y = tokens_only g h (says_once x y)
