use Rattle.std.proofs.Common.{◌≡◌, ◌-◌, length}
use Rattle.arrays.specs.Listing.{Listing}
use Rattle.arrays.proofs.entries.keep_list.Given as goal

abbrev pub invariant-loop-scanner : goal.invariant-loop-scanner
invariant-loop-scanner g l =
    let e = g.E.Entry in
    Listing (e.is l.entry) e.print e.with_one (e.form l.entry) l.initial.scanner l.scanner l.count (e.held l.initial.lists) (e.held l.lists)
    × (e.lenders l.lists ≡ e.lenders l.initial.lists)
    × e.fits l.scanner l.lists

abbrev pub decreases-loop-scanner : goal.decreases-loop-scanner
decreases-loop-scanner g l = length l.initial.scanner.bytes.now - l.scanner.at
