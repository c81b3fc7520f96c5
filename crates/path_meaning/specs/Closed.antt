-- Closed sets of cells, which show that no path and no cut stands.
use Rattle.std.specs.Prelude.{◌≡◌, ◌↔◌, ◌+◌, Bool, IsTrue, not}
use Rattle.lattice_grid.specs.declared.shape.Place.{Place}
use Rattle.lattice_grid.specs.Rectangle.{Size}
use Rattle.lattice_grid.specs.Path.{IsWithin, AreFourNeighbours, AreEightNeighbours, JoinedBy, CutBy}

-- a cell of the rectangle that is on, or off
abbrev pub IsOn : Size → (Place → Bool) → Place → Type 0
IsOn s on p = IsWithin s p × IsTrue (on p)

abbrev pub IsOff : Size → (Place → Bool) → Place → Type 0
IsOff s on p = IsWithin s p × IsTrue (not (on p))

-- The set holds the on-cells of the top row, and each four-neighbour of its cells that is on, and no cell of the bottom row.
pub record StopsBelow (s : Size) (on : Place → Bool) (set : Place → Bool) : Type 0 where
  pub start : (p : Place) → IsOn s on p → p.row ≡ 0 → IsTrue (set p)
  pub step : (p q : Place) → IsWithin s p → IsTrue (set p) → AreFourNeighbours p q → IsOn s on q → IsTrue (set q)
  pub stops : (p : Place) → IsWithin s p → IsTrue (set p) → p.row + 1 ≡ s.rows → ⊥

-- The set holds the off-cells of the left column, and each eight-neighbour of its cells that is off, and no cell of the right column.
pub record StopsBeside (s : Size) (on : Place → Bool) (set : Place → Bool) : Type 0 where
  pub start : (p : Place) → IsOff s on p → p.col ≡ 0 → IsTrue (set p)
  pub step : (p q : Place) → IsWithin s p → IsTrue (set p) → AreEightNeighbours p q → IsOff s on q → IsTrue (set q)
  pub stops : (p : Place) → IsWithin s p → IsTrue (set p) → p.col + 1 ≡ s.cols → ⊥

-- No path stands exactly where some such set stops above the bottom row.
abbrev pub IsJoinedRefuted : Type 0
IsJoinedRefuted = (s : Size) (on : Place → Bool) → (JoinedBy s on → ⊥) ↔ ((set : Place → Bool) × StopsBelow s on set)

-- No cut stands exactly where some such set stops left of the right column.
abbrev pub IsCutRefuted : Type 0
IsCutRefuted = (s : Size) (on : Place → Bool) → (CutBy s on → ⊥) ↔ ((set : Place → Bool) × StopsBeside s on set)
