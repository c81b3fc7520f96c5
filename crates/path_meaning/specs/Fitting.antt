-- To repeat the last row and the last column of a lattice, any number of times, changes nothing; so a function that some
-- lattice of a size realises is realised by some lattice of each larger size.
use Rattle.std.specs.Prelude.{◌≡◌, ◌↔◌, ℕ, ◌<◌, Bool}
use Rattle.cube_core.specs.Function.{Function}
use Rattle.lattice_grid.specs.declared.shape.Place.{Place}
use Rattle.lattice_grid.specs.Lattice.{Lattice}
use Rattle.lattice_grid.specs.Path.{IsWithin, JoinedBy}
use Rattle.lattice_grid.specs.Realise.{Joined, IsRealised}
use Rattle.lattice_grid.specs.Rectangle.{Size, IsSize, FitsInside}
use Rattle.lattice_grid.specs.Repeated.{nearest, IsRepeated}

-- The larger rectangle has at each cell what the smaller one has at the nearest cell.
pub record Repeats (small large : Size) (on on' : Place → Bool) : Type 0 where
  pub some_row : 0 < small.rows
  pub some_col : 0 < small.cols
  pub fits : FitsInside small large
  pub same : (p : Place) → IsWithin large p → on' p ≡ on (nearest small p)

-- Then a path stands in the larger one exactly where one stands in the smaller one.
abbrev pub IsFitting : Type 0
IsFitting = (small large : Size) (on on' : Place → Bool) → Repeats small large on on' → JoinedBy large on' ↔ JoinedBy small on

-- A lattice that repeats the last row and column of another joins its plates exactly where the other does.
abbrev pub IsRepeatJoined : Type 0
IsRepeatJoined = (small large : Lattice) (s : Size) → IsSize small.size → FitsInside small.size s → IsRepeated small s large → (x : ℕ) → Joined large x ↔ Joined small x

-- What is realised at a size is realised at each size that it fits inside, over the same inputs and rails.
abbrev pub IsRealisedLarger : Type 0
IsRealisedLarger = (n rails : ℕ) (f : Function) (small large : Size) → FitsInside small large → IsSize large → IsRealised n rails f small → IsRealised n rails f large
