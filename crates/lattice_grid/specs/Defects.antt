-- Arrays of switches some of which are stuck.
use Rattle.std.specs.Prelude.{◌≡◌, ◌+◌, ◌*◌, ◌≤◌, List, length, slice_index_or}
use Rattle.lattice_grid.specs.declared.array.Defect.{Defect}
use Rattle.lattice_grid.specs.declared.array.Defect.TheVariants.{Sound}
use Rattle.lattice_grid.specs.declared.shape.Place.{Place}
use Rattle.lattice_grid.specs.Rectangle.{Size}

-- the defects of the cells of a rectangle, row by row
pub record Defects : Type 0 where
  pub size : Size
  pub cells : List Defect

-- at least one and at most sixteen rows and columns
pub record IsArray (a : Defects) : Type 0 where
  pub some_rows : 1 ≤ a.size.rows
  pub some_cols : 1 ≤ a.size.cols
  pub few_rows : a.size.rows ≤ 16
  pub few_cols : a.size.cols ≤ 16
  pub whole : length a.cells ≡ a.size.rows * a.size.cols

-- the defect at a place
abbrev pub defect_at : Defects → Place → Defect
defect_at a p = slice_index_or a.cells (p.row * a.size.cols + p.col) Sound
