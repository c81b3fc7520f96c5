-- Lattices by the control at each place.
use Rattle.std.specs.Prelude.{◌≡◌, ◌*◌, length}
use Rattle.lattice_grid.specs.declared.control.Control.{Control}
use Rattle.lattice_grid.specs.declared.shape.Place.{Place}
use Rattle.lattice_grid.specs.Lattice.{Lattice, control_at}
use Rattle.lattice_grid.specs.Path.{IsWithin}
use Rattle.lattice_grid.specs.Rectangle.{Size}

-- The lattice has this size, and at each place the control that is given for it.
pub record IsDrawn (control : Place → Control) (size : Size) (g : Lattice) : Type 0 where
  pub size_is : g.size ≡ size
  pub whole : length g.cells ≡ size.rows * size.cols
  pub same : (p : Place) → IsWithin size p → control_at g p ≡ control p
