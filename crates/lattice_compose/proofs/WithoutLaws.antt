-- Lattices without one of their rows or columns.
use Rattle.std.proofs.Common.{ℕ, refl}
use Rattle.lattice_grid.specs.declared.shape.Place.{Place}
use Rattle.lattice_grid.specs.Control.{NamesBelow}
use Rattle.lattice_grid.specs.Drawn.{IsDrawn}
use Rattle.lattice_grid.specs.Lattice.{Lattice, IsOver, control_at}
use Rattle.lattice_grid.specs.Rails.{MayStand, IsOverRails}
use Rattle.lattice_grid.specs.Rectangle.{Size}
use Rattle.lattice_grid.proofs.Tools.{drawn_All}
use Rattle.lattice_compose.proofs.CellLaws.{read_has}

-- a lattice each of whose cells is a cell of another is over what the other is over
pub read_over : (a : Lattice) (from : Place → Place) (s : Size) (g : Lattice) → IsDrawn (λ p. control_at a (from p)) s g → (n : ℕ) → IsOver n a → IsOver n g
read_over a from s g h n over = drawn_All (NamesBelow n) (λ p. control_at a (from p)) s g h (λ p _. read_has (NamesBelow n) tt tt a (from p) over)

pub read_rails : (a : Lattice) (from : Place → Place) (s : Size) (g : Lattice) → IsDrawn (λ p. control_at a (from p)) s g → (n rails : ℕ) → IsOverRails n rails a → IsOverRails n rails g
read_rails a from s g h n rails over = drawn_All (MayStand n rails) (λ p. control_at a (from p)) s g h (λ p _. read_has (MayStand n rails) (tt, refl) (tt, refl) a (from p) over)
