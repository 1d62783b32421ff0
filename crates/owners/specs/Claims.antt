-- Noting the takers in the order of the taken numbers, and the refusal of one that is taken already. Assumes nothing.
use Rattle.std.specs.Prelude.{◌≡◌, ℕ, ◌+◌, ◌-◌, ◌<◌, ◌≤◌, ◌≢◌, true, List, length, pos, Some, None, Option, slice_index_or}
use Rattle.kinds.specs.declared.numbers.ReplacementId.{ReplacementId}
use Rattle.faults.specs.declared.Fault.{Fault}
use Rattle.faults.specs.declared.Refusal.TheVariants.{TakesTwice}
use Rattle.tables.specs.Judging.{First}
use Rattle.tables.specs.Tables.{Tables}
use Rattle.rules.specs.Cells.{replacement}
use Rattle.rules.specs.Links.{FreshKept}
use Rattle.rules.specs.Raw.{at}
use Rattle.rules.specs.Ranges.{before}
use Rattle.rules.specs.Rows.{replacements_in}
use Rattle.owners.specs.Owners.{count_of}

-- place i of the taken numbers is in the list of replacement n
pub record InList (t : Tables) (n i : ℕ) : Type 0 where
  pub is : replacement t n ≡ true
  pub from : before 1 t.replacements (n - 1) ≤ i
  pub upto : i < before 1 t.replacements (n - 1) + count_of 1 t.replacements (n - 1)

-- the takers that the first j taken numbers name, of which no two are the same
pub record Noted (t : Tables) (j : ℕ) (ts : List (Option ReplacementId)) : Type 0 where
  pub named : (c i : ℕ) → c < length ts → i < j → at t.taken i ≡ pos c → (n : ReplacementId) × (slice_index_or ts c None ≡ Some n) × InList t n.0 i
  pub real : (c : ℕ) (n : ReplacementId) → slice_index_or ts c None ≡ Some n → (i : ℕ) × (i < j) × (at t.taken i ≡ pos c) × InList t n.0 i
  pub apart : (i k : ℕ) → i < j → k < i → at t.taken k ≢ at t.taken i

-- the fault tells the lowest replacement that takes a taken cell
abbrev pub TakenTwice : Tables → Fault → Type 0
TakenTwice t f = (f.refusal ≡ TakesTwice) × First 1 (replacements_in t + 1) (FreshKept t) f.place
