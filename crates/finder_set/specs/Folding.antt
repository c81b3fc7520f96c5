-- Lattices with two neighbouring columns or rows made one.
use Rattle.std.specs.Prelude.{◌≡◌, ℕ, ◌+◌, ◌<◌}
use Rattle.finder_set.specs.declared.folded.Neighbours.{Neighbours}
use Rattle.finder_set.specs.declared.folded.Neighbours.TheVariants.{Columns, Rows}
use Rattle.lattice_grid.specs.declared.control.Control.{Control}
use Rattle.lattice_grid.specs.declared.control.Control.TheVariants.{Zero, One, Plain, Bar}
use Rattle.lattice_grid.specs.declared.shape.Place.{Place}
use Rattle.lattice_grid.specs.Lattice.{Lattice, control_at}
use Rattle.lattice_grid.specs.Path.{IsWithin}
use Rattle.lattice_grid.specs.Rectangle.{Size}

-- the left cell unless it is `0`, and then the right one
abbrev pub unless_zero : Control → Control → Control
unless_zero Zero right = right
unless_zero One right = One
unless_zero (Plain i) right = Plain i
unless_zero (Bar i) right = Bar i

-- the upper cell unless it is `1`, and then the lower one
abbrev pub unless_one : Control → Control → Control
unless_one Zero lower = Zero
unless_one One lower = lower
unless_one (Plain i) lower = Plain i
unless_one (Bar i) lower = Bar i

-- which cell of two neighbours is taken
abbrev pub cell_of_two : Neighbours → Control → Control → Control
cell_of_two Columns left right = unless_zero left right
cell_of_two Rows upper lower = unless_one upper lower

-- the number of a place's column or row
abbrev pub number_in : Neighbours → Place → ℕ
number_in Columns p = p.col
number_in Rows p = p.row

-- how many columns or rows there are
abbrev pub count_of : Neighbours → Size → ℕ
count_of Columns s = s.cols
count_of Rows s = s.rows

-- the place right of a place or below it
abbrev pub next_to : Neighbours → Place → Place
next_to Columns p = record { row = p.row; col = p.col + 1 }
next_to Rows p = record { row = p.row + 1; col = p.col }

-- The second size has one column or row less.
abbrev pub IsOneLess : Neighbours → Size → Size → Type 0
IsOneLess Columns whole less = (less.rows ≡ whole.rows) × (less.cols + 1 ≡ whole.cols)
IsOneLess Rows whole less = (less.rows + 1 ≡ whole.rows) × (less.cols ≡ whole.cols)

-- In the second lattice the column or row of the first with this number and the next one are one, of which each cell is taken from the two; the others are as they were.
pub record IsFolded (lines : Neighbours) (number : ℕ) (a g : Lattice) : Type 0 where
  pub size : IsOneLess lines a.size g.size
  pub before : (p : Place) → IsWithin g.size p → number_in lines p < number → control_at g p ≡ control_at a p
  pub here : (p : Place) → IsWithin g.size p → number_in lines p ≡ number → control_at g p ≡ cell_of_two lines (control_at a p) (control_at a (next_to lines p))
  pub after : (p : Place) → IsWithin g.size p → number < number_in lines p → control_at g p ≡ control_at a (next_to lines p)
