-- When a lattice realises a function on an array some of whose switches are stuck.
use Rattle.std.specs.Prelude.{◌≡◌, ◌↔◌, ℕ, Bool, true, false, Some, None, IfSome}
use Rattle.std.specs.declared.option.Option.{Option}
use Rattle.std.specs.FinSet as set
use Rattle.cube_core.specs.Function.{Function}
use Rattle.lattice_grid.specs.declared.array.Defect.{Defect}
use Rattle.lattice_grid.specs.declared.array.Defect.TheVariants.{Sound, StuckOpen, StuckClosed}
use Rattle.lattice_grid.specs.declared.shape.Place.{Place}
use Rattle.lattice_grid.specs.Defects.{Defects, defect_at}
use Rattle.lattice_grid.specs.Lattice.{Lattice, IsLattice, is_on_at}
use Rattle.lattice_grid.specs.Path.{JoinedBy}
use Rattle.lattice_grid.specs.Rails.{IsOverRails}
use Rattle.lattice_grid.specs.Realise.{Realises, IsRealised}
use Rattle.lattice_grid.specs.Rectangle.{Size}

-- the defect of a cell, where there is an array or none
abbrev pub defect_in : Option Defects → Place → Defect
defect_in None p = Sound
defect_in (Some array) p = defect_at array p

-- whether a switch is on whose control has this value: a stuck-open one never, a stuck-closed one always
abbrev pub with_defect : Defect → Bool → Bool
with_defect Sound value = value
with_defect StuckOpen value = false
with_defect StuckClosed value = true

-- whether a cell is on at an assignment, with its defect
abbrev pub is_on_in : Lattice → Option Defects → ℕ → Place → Bool
is_on_in g array x p = with_defect (defect_in array p) (is_on_at g x p)

-- a path of cells that are on at x leads from the top row to the bottom row
abbrev pub JoinedIn : Lattice → Option Defects → ℕ → Type 0
JoinedIn g array x = JoinedBy g.size (is_on_in g array x)

-- The array has the lattice's size; and with these defects the lattice joins its plates at each assignment of on, and at none of off.
pub record RealisesIn (g : Lattice) (f : Function) (array : Option Defects) : Type 0 where
  pub same_size : IfSome array (λ a. a.size ≡ g.size)
  pub on : (x : ℕ) → set.contains f.on x ≡ true → JoinedIn g array x
  pub off : (x : ℕ) → set.contains f.off x ≡ true → JoinedIn g array x → ⊥

-- Some lattice of this size, whose literals name inputs below n and are allowed, realises the function with these defects.
pub record IsRealisedIn (n rails : ℕ) (f : Function) (s : Size) (array : Option Defects) : Type 0 where
  pub lattice : Lattice
  pub kept : IsLattice lattice
  pub size_is : lattice.size ≡ s
  pub over : IsOverRails n rails lattice
  pub realises : RealisesIn lattice f array

-- On no array it is to realise the function.
abbrev pub IsRealisingPlainly : Type 0
IsRealisingPlainly = (g : Lattice) (f : Function) → RealisesIn g f None ↔ Realises g f

-- So some lattice of a size realises the function on no array exactly where some lattice of the size realises it.
abbrev pub IsRealisedPlainly : Type 0
IsRealisedPlainly = (n rails : ℕ) (f : Function) (s : Size) → IsRealisedIn n rails f s None ↔ IsRealised n rails f s
