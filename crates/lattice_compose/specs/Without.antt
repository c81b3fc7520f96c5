-- Lattices without one of their rows or columns.
use Rattle.std.specs.Prelude.{◌≡◌, ℕ, ◌+◌, ◌<◌, ◌≤◌}
use Rattle.lattice_grid.specs.declared.shape.Place.{Place}
use Rattle.lattice_grid.specs.Lattice.{Lattice, control_at}
use Rattle.lattice_grid.specs.Path.{IsWithin}

-- The rows of a but for this one, in their order.
pub record IsWithoutRow (a : Lattice) (row : ℕ) (g : Lattice) : Type 0 where
  pub rows : g.size.rows + 1 ≡ a.size.rows
  pub cols : g.size.cols ≡ a.size.cols
  pub before : (p : Place) → IsWithin g.size p → p.row < row → control_at g p ≡ control_at a p
  pub after : (p : Place) → IsWithin g.size p → row ≤ p.row → control_at g p ≡ control_at a (record { row = p.row + 1; col = p.col })

-- The columns of a but for this one, in their order.
pub record IsWithoutCol (a : Lattice) (col : ℕ) (g : Lattice) : Type 0 where
  pub rows : g.size.rows ≡ a.size.rows
  pub cols : g.size.cols + 1 ≡ a.size.cols
  pub before : (p : Place) → IsWithin g.size p → p.col < col → control_at g p ≡ control_at a p
  pub after : (p : Place) → IsWithin g.size p → col ≤ p.col → control_at g p ≡ control_at a (record { row = p.row; col = p.col + 1 })
