-- What reading comes to as one number: how many there are, or, below 0, a refusal's number times a million and its place. Counts and
-- places above 999,999, which do not come up, are cut to that. Assumes nothing.
use Rattle.std.specs.Prelude.{◌≡◌, ℕ, ◌+◌, ◌*◌, min, List, ℤ, pos, neg_ℤ, Ok, Err, Result}
use Rattle.faults.specs.Number.{number_of}
use Rattle.faults.specs.declared.Fault.{Fault}
use Rattle.hierarchylines.specs.Reading.{Lists, HierarchyReading}
use Rattle.orderlines.specs.Order.{OrderReading}
use Rattle.tables.specs.declared.contents.Contents.{Contents}

abbrev pub packed_fault : Fault → ℤ
packed_fault f = neg_ℤ (pos (number_of f.refusal * 1000000 + min f.place 999999))

abbrev pub packed_order : Result ℕ Fault → ℤ
packed_order (Ok n) = pos (min n 999999)
packed_order (Err f) = packed_fault f

abbrev pub packed_hierarchy : Result Contents Fault → ℤ
packed_hierarchy (Ok c) = pos (min c.cells 999999)
packed_hierarchy (Err f) = packed_fault f

pub record OrderBenched (bs : List ℕ) (before : List ℤ) (r : ℤ) (after : List ℤ) : Type 0 where
  pub result : Result ℕ Fault
  pub reading : OrderReading bs before result after
  pub packed : r ≡ packed_order result

pub record HierarchyBenched (bs : List ℕ) (before : Lists) (r : ℤ) (after : Lists) : Type 0 where
  pub result : Result Contents Fault
  pub reading : HierarchyReading bs before result after
  pub packed : r ≡ packed_hierarchy result
