-- What a failure at one assignment says of a lattice.
use Rattle.std.specs.Prelude.{◌≡◌, ℕ, true}
use Rattle.std.specs.FinSet as set
use Rattle.cube_core.specs.Function.{Function}
use Rattle.lattice_grid.specs.Lattice.{Lattice}
use Rattle.lattice_grid.specs.Realise.{Realises, Joined}

-- an on assignment at which the lattice does not join its plates
pub fails_on : (g : Lattice) (f : Function) (x : ℕ) → set.contains f.on x ≡ true → (Joined g x → ⊥) → Realises g f → ⊥
fails_on g f x on apart right = apart (right.on x on)

-- an off assignment at which it joins them
pub fails_off : (g : Lattice) (f : Function) (x : ℕ) → set.contains f.off x ≡ true → Joined g x → Realises g f → ⊥
fails_off g f x off joined right = right.off x off joined
