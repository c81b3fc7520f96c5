-- A rectangle of switches, row by row.
use Rattle.std.specs.Prelude.{◌≡◌, ℕ, ◌+◌, ◌*◌, Bool, List, length, take, drop, All, slice_index_or}
use Rattle.lattice_grid.specs.declared.control.Control.{Control}
use Rattle.lattice_grid.specs.declared.control.Control.TheVariants.{Zero}
use Rattle.lattice_grid.specs.declared.shape.Place.{Place}
use Rattle.lattice_grid.specs.Control.{value_of, NamesBelow}
use Rattle.lattice_grid.specs.Rectangle.{Size, IsSize}

pub record Lattice : Type 0 where
  pub size : Size
  pub cells : List Control

-- each cell's literal names an input below n
abbrev pub IsOver : ℕ → Lattice → Type 0
IsOver n g = All (NamesBelow n) g.cells

pub record IsLattice (g : Lattice) : Type 0 where
  pub size : IsSize g.size
  pub whole : length g.cells ≡ g.size.rows * g.size.cols
  pub inputs : IsOver 10 g

-- the control at a place
abbrev pub control_at : Lattice → Place → Control
control_at g p = slice_index_or g.cells (p.row * g.size.cols + p.col) Zero

-- whether the cell at a place is on at an assignment
abbrev pub is_on_at : Lattice → ℕ → Place → Bool
is_on_at g x p = value_of (control_at g p) x

-- the cells of a row
abbrev pub row_cells : Lattice → ℕ → List Control
row_cells g row = take g.size.cols (drop (row * g.size.cols) g.cells)
