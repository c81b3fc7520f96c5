-- When a lattice joins its plates, when it is cut, and when it realises a function.
use Rattle.std.specs.Prelude.{◌≡◌, ℕ, true}
use Rattle.std.specs.FinSet as set
use Rattle.cube_core.specs.Function.{Function}
use Rattle.lattice_grid.specs.Lattice.{Lattice, IsLattice, is_on_at}
use Rattle.lattice_grid.specs.Path.{JoinedBy, CutBy}
use Rattle.lattice_grid.specs.Rails.{IsOverRails}
use Rattle.lattice_grid.specs.Rectangle.{Size}

-- a path of cells that are on at x leads from the top row to the bottom row
abbrev pub Joined : Lattice → ℕ → Type 0
Joined g x = JoinedBy g.size (is_on_at g x)

-- a path of cells that are off at x leads from the left column to the right column
abbrev pub Cut : Lattice → ℕ → Type 0
Cut g x = CutBy g.size (is_on_at g x)

-- The lattice joins its plates at each assignment of on, and at none of off.
pub record Realises (g : Lattice) (f : Function) : Type 0 where
  pub on : (x : ℕ) → set.contains f.on x ≡ true → Joined g x
  pub off : (x : ℕ) → set.contains f.off x ≡ true → Joined g x → ⊥

-- Some lattice of this size, whose literals name inputs below n and are allowed, realises the function.
pub record IsRealised (n rails : ℕ) (f : Function) (s : Size) : Type 0 where
  pub lattice : Lattice
  pub kept : IsLattice lattice
  pub size_is : lattice.size ≡ s
  pub over : IsOverRails n rails lattice
  pub realises : Realises lattice f
