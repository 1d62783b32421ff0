-- That the totals of replacements fit: they are no more than the bytes that were read. Assumes nothing.
use Rattle.std.specs.Prelude.{◌≡◌, ◌+◌, ◌<◌, ◌≤◌, length}
use Rattle.std.proofs.Common.{arith}
use Rattle.scanner.specs.Scanner.{text}
use Rattle.scanner.specs.declared.Scanner.{Scanner}
use Rattle.hierarchypass.specs.Line.{Replacement, replacement_tokens}
use Rattle.hierarchypass.specs.declared.replacement.Growing.{Growing}

abbrev pub Fits : Scanner → Growing → Type 0
Fits r g = g.totals.takes + g.totals.makes ≤ r.at

-- they still fit when more is read
pub fits_later : (r s : Scanner) (g : Growing) → text s ≡ text r → r.at ≤ s.at → Fits r g → Fits s g
fits_later r s g same on x = omega (arith, on, x)

-- a replacement is not empty
pub some_tokens : (r : Replacement) → 0 < length (replacement_tokens r)
some_tokens r = omega arith
