-- For the crate's own proofs: what comes of a change that is tried. What it means for the proposals stands in Shrinking.
use Rattle.std.specs.Prelude.{ℕ, MatchOption}
use Rattle.std.specs.declared.option.Option.{Option}
use Rattle.cube_core.specs.Function.{Function}
use Rattle.finder_set.specs.declared.shrink.Change.{Change}
use Rattle.finder_set.specs.Shrinking.{IsChanged, IsRightAndSmaller}
use Rattle.lattice_grid.specs.Lattice.{Lattice}
use Rattle.lattice_grid.specs.Realise.{Realises}

-- The lattice after the change does not realise the function.
pub record IsLeft (change : Change) (f : Function) (place : ℕ) (g : Lattice) : Type 0 where
  pub less : Lattice
  pub changed : IsChanged change place g less
  pub wrong : Realises less f → ⊥

-- The lattice after the change is right.
pub record IsTaken (change : Change) (f : Function) (place : ℕ) (g less : Lattice) : Type 0 where
  pub changed : IsChanged change place g less
  pub right : IsRightAndSmaller f g less

abbrev pub HasTried : Change → Function → ℕ → Lattice → Option Lattice → Type 0
HasTried change f place g answer = MatchOption answer (IsLeft change f place g) (IsTaken change f place g)
