-- Lattices that get smaller by a row or a column at a time, as long as they realise a function.
use Rattle.std.specs.Prelude.{ℕ, ◌+◌, ◌-◌, ◌<◌, ◌≤◌, ◌⊎◌, ◌==◌, MatchOption, if◌then◌else◌}
use Rattle.std.specs.declared.option.Option.{Option}
use Rattle.cube_core.specs.Function.{Function}
use Rattle.finder_set.specs.declared.shrink.Change.{Change}
use Rattle.finder_set.specs.declared.shrink.Change.TheVariants.{RowDropped, ColumnDropped, ColumnsFolded, RowsFolded}
use Rattle.finder_set.specs.declared.folded.Neighbours.TheVariants.{Columns, Rows}
use Rattle.finder_set.specs.Finders.{area_of}
use Rattle.finder_set.specs.Folding.{IsFolded}
use Rattle.lattice_compose.specs.Without.{IsWithoutRow, IsWithoutCol}
use Rattle.lattice_grid.specs.Lattice.{Lattice, IsOver}
use Rattle.lattice_grid.specs.Realise.{Realises}

-- at how many places a lattice may be changed: each row or column may be dropped as long as one is left, and each may be folded with the next one
abbrev pub places_of : Change → Lattice → ℕ
places_of RowDropped g = if g.size.rows == 1 then 0 else g.size.rows
places_of ColumnDropped g = if g.size.cols == 1 then 0 else g.size.cols
places_of ColumnsFolded g = g.size.cols - 1
places_of RowsFolded g = g.size.rows - 1

-- The second lattice is the first one after the change at this place.
abbrev pub IsChanged : Change → ℕ → Lattice → Lattice → Type 0
IsChanged RowDropped place g less = IsWithoutRow g place less
IsChanged ColumnDropped place g less = IsWithoutCol g place less
IsChanged ColumnsFolded place g less = IsFolded Columns place g less
IsChanged RowsFolded place g less = IsFolded Rows place g less

-- What becomes of a lattice from a place on: a change after which it still realises the function is taken, and the next one is tried at the same place; another change
-- is left, and the next one is tried at the next place.
pub data Shrinks (change : Change) (f : Function) : ℕ → Lattice → Lattice → Type 0 where
  ends : (place : ℕ) (g : Lattice) → places_of change g ≤ place → Shrinks change f place g g
  takes : (place : ℕ) (g less h : Lattice) → place < places_of change g → IsChanged change place g less → Realises less f
      → Shrinks change f place less h → Shrinks change f place g h
  leaves : (place : ℕ) (g less h : Lattice) → place < places_of change g → IsChanged change place g less → (Realises less f → ⊥)
      → Shrinks change f (place + 1) g h → Shrinks change f place g h

-- what becomes of a lattice from the first place on by one kind of changes, and then by another
pub record ShrinksTwice (first second : Change) (f : Function) (g h : Lattice) : Type 0 where
  pub between : Lattice
  pub once : Shrinks first f 0 g between
  pub again : Shrinks second f 0 between h

-- The rows and then the columns are gone through, each from the first, and each one is dropped without which the lattice so far still realises the function.
abbrev pub IsTrimmed : Function → Lattice → Lattice → Type 0
IsTrimmed f g h = ShrinksTwice RowDropped ColumnDropped f g h

-- The neighbouring columns from the left and then the neighbouring rows from the top are gone through, and two are made one wherever the lattice still realises the
-- function.
abbrev pub IsFoldedThrough : Function → Lattice → Lattice → Type 0
IsFoldedThrough f g h = ShrinksTwice ColumnsFolded RowsFolded f g h

-- The proposal for the best lattice, which has at most 1,024 cells, is what is made of it, and is smaller.
pub record IsSmallerProposal (IsMade : Lattice → Lattice → Type 0) (best g : Lattice) : Type 0 where
  pub few : area_of best ≤ 1024
  pub made : IsMade best g
  pub smaller : area_of g < area_of best

-- There is no proposal exactly where the best lattice has more than 1,024 cells, or nothing else is made of it.
abbrev pub ProposesSmaller : (Lattice → Lattice → Type 0) → Lattice → Option Lattice → Type 0
ProposesSmaller IsMade best ready = MatchOption ready ((1024 < area_of best) ⊎ IsMade best best) (IsSmallerProposal IsMade best)

-- Where the best lattice is over the inputs below n the other one is, it realises the function, and it is smaller.
pub record IsRightAndSmaller (f : Function) (best g : Lattice) : Type 0 where
  pub over : (n : ℕ) → IsOver n best → IsOver n g
  pub realises : Realises g f
  pub smaller : area_of g < area_of best
