-- Exactly one of a path of on-cells from top to bottom and a cut of the other cells from left to right stands in a rectangle.
use Rattle.std.specs.Prelude.{◌↔◌, ◌⊎◌, ◌<◌, Bool}
use Rattle.lattice_grid.specs.declared.shape.Place.{Place}
use Rattle.lattice_grid.specs.Rectangle.{Size}
use Rattle.lattice_grid.specs.Path.{JoinedBy, CutBy}

-- Whatever cells are on, a path or a cut stands.
abbrev pub IsJoinedOrCut : Type 0
IsJoinedOrCut = (s : Size) (on : Place → Bool) → 0 < s.rows → 0 < s.cols → JoinedBy s on ⊎ CutBy s on

-- A path and a cut never stand together.
abbrev pub IsNeverBoth : Type 0
IsNeverBoth = (s : Size) (on : Place → Bool) → JoinedBy s on → CutBy s on → ⊥

-- So each of them stands exactly where the other does not.
abbrev pub IsEitherOr : Type 0
IsEitherOr = (s : Size) (on : Place → Bool) → 0 < s.rows → 0 < s.cols → (JoinedBy s on ↔ (CutBy s on → ⊥)) × (CutBy s on ↔ (JoinedBy s on → ⊥))
