-- Two on cells that touch only at a corner join nothing: the cut passes between them.
use Rattle.std.proofs.Common.{◌≡◌, ◌≢◌, ◌+◌, Bool, eqb, refl, ap, arith, not}
use Rattle.lattice_grid.specs.declared.shape.Place.{Place}
use Rattle.lattice_grid.specs.Rectangle.{Size}
use Rattle.lattice_grid.specs.Path.{AreEightNeighbours, JoinedBy, CutBy}
use Rattle.path_meaning.proofs.Never.{never_both}
use Rattle.path_meaning.proofs.Walks.{stop, next, path_from}

square : Size
square = record { rows = 2; cols = 2 }

abbrev corners : Place → Bool
corners p = eqb p.row p.col

low : Place
low = record { row = 1; col = 0 }

high : Place
high = record { row = 0; col = 1 }

corners_cut : CutBy square corners
unfolding square low high
corners_cut =
    let apart : low ≢ high = λ h. let e = ap (λ c. c.row) h in omega arith in
    path_from square (λ c. not (corners c)) AreEightNeighbours (λ p. p.col ≡ 0) (λ p. p.col + 1 ≡ 2)
    (next ((omega arith, omega arith), refl) (apart, (omega arith, omega arith), (omega arith, omega arith)) (stop {p = high} ((omega arith, omega arith), refl))) refl refl

corners_apart : JoinedBy square corners → ⊥
corners_apart joined = never_both square corners joined corners_cut
