-- Larger rectangles that repeat the last row and the last column.
use Rattle.std.specs.Prelude.{◌≡◌, ◌-◌, min}
use Rattle.lattice_grid.specs.declared.shape.Place.{Place}
use Rattle.lattice_grid.specs.Rectangle.{Size}
use Rattle.lattice_grid.specs.Path.{IsWithin}
use Rattle.lattice_grid.specs.Lattice.{Lattice, control_at}

-- the cell of a rectangle that is nearest to p: past the last row one of the last row, past the last column one of the last column
abbrev pub nearest : Size → Place → Place
nearest s p = record { row = min p.row (s.rows - 1); col = min p.col (s.cols - 1) }

-- The larger lattice has this size, and at each place the control that the smaller one has at the nearest place.
pub record IsRepeated (small : Lattice) (size : Size) (large : Lattice) : Type 0 where
  pub size_is : large.size ≡ size
  pub same : (p : Place) → IsWithin large.size p → control_at large p ≡ control_at small (nearest small.size p)
