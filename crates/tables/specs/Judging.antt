-- Rules that are judged place by place, and tables of such rules. A rule says for each place what has to hold there. Assumes nothing.
use Rattle.std.specs.Prelude.{◌≡◌, ℕ, ◌<◌, ◌≤◌, ◌⊎◌, List, [], ◌∷◌, Result, MatchResult}
use Rattle.faults.specs.declared.Fault.{Fault}
use Rattle.faults.specs.declared.Refusal.{Refusal}

-- the rule K holds at each place from a on, below b
abbrev pub Clear : ℕ → ℕ → (ℕ → Type 0) → Type 0
Clear a b K = (q : ℕ) → a ≤ q → q < b → K q

-- of the places from a on, below b, p is the lowest at which the rule K is broken
pub record First (a b : ℕ) (K : ℕ → Type 0) (p : ℕ) : Type 0 where
  pub low : a ≤ p
  pub inside : p < b
  pub before : Clear a p K
  pub broken : K p → ⊥

-- the fault tells that the rule K is broken, at the lowest of these places where it is
abbrev pub Told : Refusal → ℕ → ℕ → (ℕ → Type 0) → Fault → Type 0
Told refusal a b K f = (f.refusal ≡ refusal) × First a b K f.place

-- what judging one rule comes to: it holds at each of these places, or the first at which it is broken is told
abbrev pub RuleJudged : Refusal → ℕ → ℕ → (ℕ → Type 0) → Result (Unit {0}) Fault → Type 0
RuleJudged refusal a b K r = MatchResult r (λ _. Clear a b K) (Told refusal a b K)

-- a rule, the places from which and below which it is judged, and the refusal that tells where it is broken
pub record Row : Type 1 where
  pub refusal : Refusal
  pub from : ℕ
  pub upto : ℕ
  pub kept : ℕ → Type 0

-- every rule holds everywhere
abbrev pub Lawful : List Row → Type 0
Lawful [] = Unit {0}
Lawful (r ∷ rs) = Clear r.from r.upto r.kept × Lawful rs

-- the fault tells the first rule that is broken, at the lowest place where it is
abbrev pub Refused : List Row → Fault → Type 0
Refused [] f = ⊥
Refused (r ∷ rs) f = Told r.refusal r.from r.upto r.kept f ⊎ (Clear r.from r.upto r.kept × Refused rs f)

-- what judging a table of rules comes to: every rule holds everywhere, or the first broken one is told
abbrev pub Outcome : List Row → Result (Unit {0}) Fault → Type 0
Outcome rs r = MatchResult r (λ _. Lawful rs) (Refused rs)
