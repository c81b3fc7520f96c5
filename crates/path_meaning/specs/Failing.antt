-- The assignments at which a lattice fails to realise a function.
use Rattle.std.specs.Prelude.{◌≡◌, ◌⊎◌, ℕ, ◌<◌, true}
use Rattle.std.specs.FinSet as set
use Rattle.std.specs.declared.option.Option.{Option}
use Rattle.cube_core.specs.Function.{Function}
use Rattle.lattice_grid.specs.Defects.{Defects}
use Rattle.lattice_grid.specs.Lattice.{Lattice}
use Rattle.path_meaning.specs.Defective.{JoinedIn}
use Rattle.lattice_grid.specs.Realise.{Joined}

-- Where the function is 1 the lattice joins its plates, with the defects that there are, and where it is 0 it does not.
abbrev pub MeetsIn : Lattice → Option Defects → Function → ℕ → Type 0
MeetsIn g array f x = (set.contains f.on x ≡ true → JoinedIn g array x) × (set.contains f.off x ≡ true → JoinedIn g array x → ⊥)

-- The function is 1 and the lattice does not join its plates, or the function is 0 and it does.
abbrev pub FailsIn : Lattice → Option Defects → Function → ℕ → Type 0
FailsIn g array f x = ((set.contains f.on x ≡ true) × (JoinedIn g array x → ⊥)) ⊎ ((set.contains f.off x ≡ true) × JoinedIn g array x)

-- It fails so at x, and at no smaller assignment.
pub record IsLeastFailureIn (g : Lattice) (array : Option Defects) (f : Function) (x : ℕ) : Type 0 where
  pub fails : FailsIn g array f x
  pub least : (y : ℕ) → y < x → FailsIn g array f y → ⊥

-- The same on no array.
abbrev pub FailsAt : Lattice → Function → ℕ → Type 0
FailsAt g f x = ((set.contains f.on x ≡ true) × (Joined g x → ⊥)) ⊎ ((set.contains f.off x ≡ true) × Joined g x)

-- It fails at x, and at no smaller assignment.
pub record IsLeastFailure (g : Lattice) (f : Function) (x : ℕ) : Type 0 where
  pub fails : FailsAt g f x
  pub least : (y : ℕ) → y < x → FailsAt g f y → ⊥
