-- Two lattices side by side, with a column of `0` between them.
use Rattle.std.specs.Prelude.{◌≡◌, ◌↔◌, ◌⊎◌, ℕ, ◌+◌, ◌<◌, ◌≤◌, max}
use Rattle.lattice_grid.specs.declared.control.Control.TheVariants.{Zero, One}
use Rattle.lattice_grid.specs.declared.shape.Place.{Place}
use Rattle.lattice_grid.specs.Lattice.{Lattice, control_at}
use Rattle.lattice_grid.specs.Path.{IsWithin}
use Rattle.lattice_grid.specs.Realise.{Joined}

-- From the left: the columns of a, one column of `0`, the columns of b. Below the lower of the two its columns are filled with `1`.
pub record IsEither (a b g : Lattice) : Type 0 where
  pub rows : g.size.rows ≡ max a.size.rows b.size.rows
  pub cols : g.size.cols ≡ a.size.cols + 1 + b.size.cols
  pub left : (p : Place) → IsWithin a.size p → control_at g p ≡ control_at a p
  pub left_filled : (p : Place) → a.size.rows ≤ p.row → p.row < g.size.rows → p.col < a.size.cols → control_at g p ≡ One
  pub between : (p : Place) → p.row < g.size.rows → p.col ≡ a.size.cols → control_at g p ≡ Zero
  pub right : (p : Place) → IsWithin b.size p → control_at g (record { row = p.row; col = a.size.cols + 1 + p.col }) ≡ control_at b p
  pub right_filled : (p : Place) → b.size.rows ≤ p.row → p.row < g.size.rows → a.size.cols < p.col → p.col < g.size.cols → control_at g p ≡ One

-- At each assignment g joins its plates exactly where a or b does.
abbrev pub JoinsEither : Lattice → Lattice → Lattice → Type 0
JoinsEither a b g = (x : ℕ) → Joined g x ↔ (Joined a x ⊎ Joined b x)
