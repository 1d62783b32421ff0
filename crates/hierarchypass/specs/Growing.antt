-- What the lists hold that grow with the replacements, and which lent lists they are. Assumes nothing.
use Rattle.std.specs.Borrow.{GName}
use Rattle.arrays.specs.Sink.{filling}
use Rattle.arrays.specs.declared.sink.Sink.{Sink}
use Rattle.hierarchypass.specs.Passing.{Growth, growth, Fillings, fillings}
use Rattle.hierarchypass.specs.declared.replacement.Growing.{Growing}

abbrev pub grown : Growing → Growth
grown g = growth (filling g.corners.now) (filling g.replacements.now) (filling g.taken.now) g.totals.takes g.totals.makes

-- the sinks, and the lists that they are over
abbrev pub Names : Type 0
Names = (GName × GName) × (GName × GName) × (GName × GName)

abbrev pub growth_lenders : Growing → Names
growth_lenders g = ((g.corners.ghost_name, g.corners.now.places.ghost_name), (g.replacements.ghost_name, g.replacements.now.places.ghost_name), (g.taken.ghost_name, g.taken.now.places.ghost_name))

-- with the coordinates
abbrev pub filled : Sink → Growing → Fillings
filled s g = fillings (filling s) (filling g.corners.now) (filling g.replacements.now) (filling g.taken.now)
