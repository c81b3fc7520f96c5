-- Floods of the free cells of a rectangle, and the truth values that come from a lattice.
use Rattle.std.specs.Prelude.{◌≡◌, ℕ, ◌+◌, ◌*◌, ◌<◌, ◌==◌, ◌⊎◌, Bool, true, false, not, List, [], ◌++◌, map, length, slice_index, slice_index_or, if◌then◌else◌}
use Rattle.std.specs.declared.option.Option.{Option}
use Rattle.std.specs.List.{Contains, count_by, flat_map}
use Rattle.std.specs.FinSet as set
use Rattle.cube_core.specs.Function.{Function}
use Rattle.cube_core.specs.Members.{Assignments}
use Rattle.lattice_grid.specs.declared.control.Control.{Control}
use Rattle.lattice_grid.specs.declared.control.Control.TheVariants.{Zero, One, Plain, Bar}
use Rattle.lattice_grid.specs.declared.shape.Place.{Place}
use Rattle.lattice_grid.specs.Defects.{Defects}
use Rattle.lattice_grid.specs.Lattice.{Lattice, control_at}
use Rattle.lattice_grid.specs.Neighbours.{four_of, eight_of}
use Rattle.lattice_grid.specs.Path.{IsWithin, AreFourNeighbours, AreEightNeighbours, IsCrossing}
use Rattle.lattice_grid.specs.Rectangle.{Size}
use Rattle.path_meaning.specs.Defective.{is_on_in}
use Rattle.reach_encoding.specs.declared.flood.Side.{Side}
use Rattle.reach_encoding.specs.declared.flood.Side.TheVariants.{Down, Across}
use Rattle.reach_encoding.specs.Encoding.{Question, below, place_of, number_of}

-- whether a cell is free for a flood, by whether it is on
abbrev pub is_free : Side → Bool → Bool
is_free Down on = on
is_free Across on = not on

-- the cells at which it begins
abbrev pub StartsAt : Side → Place → Type 0
StartsAt Down p = p.row ≡ 0
StartsAt Across p = p.col ≡ 0

-- the cells to which it spreads
abbrev pub AreNext : Side → Place → Place → Type 0
AreNext Down p q = AreFourNeighbours p q
AreNext Across p q = AreEightNeighbours p q

abbrev pub around : Size → Side → Place → List Place
around s Down p = four_of s p
around s Across p = eight_of s p

-- the entry of a cell in a list with one for each cell, row by row
abbrev pub entry_of : Size → List Bool → Place → Bool
entry_of s cells p = slice_index_or cells (number_of s p) false

-- Some free cells, each next to the one before, lead from the start to p.
abbrev pub IsReached : Size → List Bool → Side → Place → Type 0
IsReached s free side p = (path : List Place) × IsCrossing s (entry_of s free) (AreNext side) (StartsAt side) (λ q. q ≡ p) path

-- Of some cells those that are free are marked, and those that were not marked before wait; no other cell is marked, and none that waits is taken.
pub record Spreads (s : Size) (free : List Bool) (places : List Place) (old : List Bool) (waited : List Place) (new : List Bool) (waiting : List Place) : Type 0 where
  pub cells : length new ≡ length old
  pub kept : (p : Place) → entry_of s old p ≡ true → entry_of s new p ≡ true
  pub came : (p : Place) → IsWithin s p → entry_of s new p ≡ true → (entry_of s old p ≡ true) ⊎ (Contains places p × (entry_of s free p ≡ true) × Contains waiting p)
  pub entered : (p : Place) → Contains places p → entry_of s free p ≡ true → entry_of s new p ≡ true
  pub waits : (p : Place) → Contains waited p → Contains waiting p
  pub listed : (p : Place) → Contains waiting p → Contains waited p ⊎ (Contains places p × (entry_of s new p ≡ true))
  pub left : count_by not new + length waiting ≡ count_by not old + length waited

-- the free cells next to p are marked
abbrev pub IsDone : Size → List Bool → Side → List Bool → Place → Type 0
IsDone s free side marks p = (q : Place) → AreNext side p q → IsWithin s q → entry_of s free q ≡ true → entry_of s marks q ≡ true

-- The free cells at the start are marked; the marked cells are reached, and each is done or waits.
pub record IsFlood (s : Size) (free : List Bool) (side : Side) (marks : List Bool) (waiting : List Place) : Type 0 where
  pub cells : length marks ≡ s.rows * s.cols
  pub start : (p : Place) → IsWithin s p → entry_of s free p ≡ true → StartsAt side p → entry_of s marks p ≡ true
  pub listed : (p : Place) → Contains waiting p → IsWithin s p × (entry_of s marks p ≡ true)
  pub reached : (p : Place) → IsWithin s p → entry_of s marks p ≡ true → IsReached s free side p
  pub settled : (p : Place) → IsWithin s p → entry_of s marks p ≡ true → IsDone s free side marks p ⊎ Contains waiting p

-- The free cells at the start are marked, and with each marked cell the free ones next to it; and only cells that are reached.
pub record IsFlooded (s : Size) (free : List Bool) (side : Side) (marks : List Bool) : Type 0 where
  pub cells : length marks ≡ s.rows * s.cols
  pub start : (p : Place) → IsWithin s p → entry_of s free p ≡ true → StartsAt side p → entry_of s marks p ≡ true
  pub step : (p q : Place) → IsWithin s p → entry_of s marks p ≡ true → AreNext side p q → IsWithin s q → entry_of s free q ≡ true → entry_of s marks q ≡ true
  pub reached : (p : Place) → IsWithin s p → entry_of s marks p ≡ true → IsReached s free side p

-- the question that a lattice may answer
abbrev pub answered : Function → ℕ → Lattice → Option Defects → Question
answered f rails g array = record { function = f; rails = rails; size = g.size; array = array }

-- whether two controls are the same
abbrev pub is_control : Control → Control → Bool
is_control Zero Zero = true
is_control Zero One = false
is_control Zero (Plain j) = false
is_control Zero (Bar j) = false
is_control One Zero = false
is_control One One = true
is_control One (Plain j) = false
is_control One (Bar j) = false
is_control (Plain i) Zero = false
is_control (Plain i) One = false
is_control (Plain i) (Plain j) = i == j
is_control (Plain i) (Bar j) = false
is_control (Bar i) Zero = false
is_control (Bar i) One = false
is_control (Bar i) (Plain j) = false
is_control (Bar i) (Bar j) = i == j

-- for each of some controls whether it is the one that stands
abbrev pub control_row : List Control → Control → List Bool
control_row controls stands = map (λ c. is_control c stands) controls

-- for each of some controls whether it stands at a cell
abbrev pub choice_row : Lattice → List Control → ℕ → List Bool
choice_row g controls p = control_row controls (control_at g (place_of g.size p))

-- for each of the first n cells whether it is free for a flood at an assignment
abbrev pub free_row : Lattice → Option Defects → Side → ℕ → ℕ → List Bool
free_row g array side x n = map (λ p. is_free side (is_on_in g array x (place_of g.size p))) (below n)

-- the same of all cells
abbrev pub free_cells_of : Lattice → Option Defects → Side → ℕ → List Bool
free_cells_of g array side x = free_row g array side x (g.size.rows * g.size.cols)

-- from which side the marks of an assignment are a flood
abbrev pub side_at : Assignments → ℕ → Side
side_at on x = if set.contains on x then Across else Down

-- The marks of an assignment are a flood of its free cells.
abbrev pub IsRowOfMarks : Assignments → Lattice → Option Defects → ℕ → List Bool → Type 0
IsRowOfMarks on g array x marks = IsFlooded g.size (free_cells_of g array (side_at on x) x) (side_at on x) marks

-- What was added are the marks of each assignment.
pub record HasMarks (on : Assignments) (g : Lattice) (array : Option Defects) (asked : List ℕ) (old new : List Bool) : Type 0 where
  pub rows : List (List Bool)
  pub added : new ≡ old ++ flat_map (λ row. row) rows
  pub many : length rows ≡ length asked
  pub each : (t : ℕ) → t < length asked → IsRowOfMarks on g array (slice_index asked t) (slice_index_or rows t [])
