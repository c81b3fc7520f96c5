-- Two lattices one under the other, with a row of `1` between them.
use Rattle.std.specs.Prelude.{◌≡◌, ◌↔◌, ℕ, ◌+◌, ◌<◌, ◌≤◌, max}
use Rattle.lattice_grid.specs.declared.control.Control.TheVariants.{Zero, One}
use Rattle.lattice_grid.specs.declared.shape.Place.{Place}
use Rattle.lattice_grid.specs.Lattice.{Lattice, control_at}
use Rattle.lattice_grid.specs.Path.{IsWithin}
use Rattle.lattice_grid.specs.Realise.{Joined}

-- From the top: the rows of a, one row of `1`, the rows of b. Right of the narrower of the two its rows are filled with `0`.
pub record IsBoth (a b g : Lattice) : Type 0 where
  pub rows : g.size.rows ≡ a.size.rows + 1 + b.size.rows
  pub cols : g.size.cols ≡ max a.size.cols b.size.cols
  pub upper : (p : Place) → IsWithin a.size p → control_at g p ≡ control_at a p
  pub upper_filled : (p : Place) → p.row < a.size.rows → a.size.cols ≤ p.col → p.col < g.size.cols → control_at g p ≡ Zero
  pub between : (p : Place) → p.row ≡ a.size.rows → p.col < g.size.cols → control_at g p ≡ One
  pub lower : (p : Place) → IsWithin b.size p → control_at g (record { row = a.size.rows + 1 + p.row; col = p.col }) ≡ control_at b p
  pub lower_filled : (p : Place) → a.size.rows < p.row → p.row < g.size.rows → b.size.cols ≤ p.col → p.col < g.size.cols → control_at g p ≡ Zero

-- At each assignment g joins its plates exactly where a and b do.
abbrev pub JoinsBoth : Lattice → Lattice → Lattice → Type 0
JoinsBoth a b g = (x : ℕ) → Joined g x ↔ (Joined a x × Joined b x)
