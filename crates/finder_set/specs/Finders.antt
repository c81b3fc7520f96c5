-- What comes of asking finders, which are not trusted, for lattices of a function.
use Rattle.std.specs.Prelude.{◌≡◌, ◌⊎◌, ℕ, ◌+◌, ◌*◌, ◌<◌, ◌≤◌, List, length, map, All, slice_index, slice_index_or}
use Rattle.std.specs.List.{Contains}
use Rattle.std.specs.List.Sorted.{IsStrictlyIncreasing}
use Rattle.cube_core.specs.Function.{Function}
use Rattle.finder_set.specs.declared.improve.Dropped.{Dropped}
use Rattle.lattice_grid.specs.Lattice.{Lattice, IsOver}
use Rattle.lattice_grid.specs.Realise.{Realises}
use Rattle.wire_io.specs.Causes.{Rose}

-- how many cells a lattice has
abbrev pub area_of : Lattice → ℕ
area_of g = g.size.rows * g.size.cols

-- The lattice names only the function's inputs, realises it, and has at most so many cells.
pub record IsRightWithin (f : Function) (bound : ℕ) (g : Lattice) : Type 0 where
  pub over : IsOver f.inputs g
  pub realises : Realises g f
  pub no_larger : area_of g ≤ bound

-- The proposal has fewer cells than the bound, and it names another input than the function's or does not realise it.
pub record IsWrongProposal (f : Function) (bound : ℕ) (g : Lattice) : Type 0 where
  pub smaller : area_of g < bound
  pub wrong : (IsOver f.inputs g → ⊥) ⊎ (Realises g f → ⊥)

-- the places of entries
abbrev pub places_of : List Dropped → List ℕ
places_of dropped = map (λ entry. entry.place) dropped

-- Each entry has a place of a list of so many finders, the places rise strictly, and each proposal is wrong.
pub record AreDropped (f : Function) (bound finders : ℕ) (dropped : List Dropped) : Type 0 where
  pub places : All (λ entry. entry.place < finders) dropped
  pub rising : IsStrictlyIncreasing (places_of dropped)
  pub wrong : All (λ entry. IsWrongProposal f bound entry.proposal) dropped

-- the least number of a list
pub record IsLeast (least : ℕ) (numbers : List ℕ) : Type 0 where
  pub one : Contains numbers least
  pub below : All (λ n. least ≤ n) numbers

-- The finders of the new list are those of the old one at some places, in order; no entry has such a place, and each finder was begun since.
pub record StayInOrder {F : Type 0} (begun : F → ℕ) (old new : List F) (dropped : List Dropped) : Type 0 where
  pub places : List ℕ
  pub one_each : length places ≡ length new
  pub inside : All (λ place. place < length old) places
  pub rising : IsStrictlyIncreasing places
  pub apart : All (λ place. Contains (places_of dropped) place → ⊥) places
  pub rose : (k : ℕ) (finder : F) → k < length new → Rose (begun (slice_index_or old (slice_index places k) finder)) (begun (slice_index_or new k finder))

-- Of the finders of the old list these were dropped, for proposals below the bound; the others were begun and asked until nothing was left.
pub record AreAsked {F : Type 0} (begun left : F → ℕ) (f : Function) (bound : ℕ) (old new : List F) (dropped : List Dropped) : Type 0 where
  pub entries : AreDropped f bound (length old) dropped
  pub stay : length new + length dropped ≡ length old
  pub spent : All (λ finder. left finder ≡ 0) new
  pub order : StayInOrder begun old new dropped
  pub rose : (least : ℕ) → IsLeast least (map begun old) → All (λ finder. Rose least (begun finder)) new
