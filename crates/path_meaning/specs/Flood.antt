-- A flood of the on-cells of a rectangle from its top row.
use Rattle.std.specs.Prelude.{◌≡◌, ◌≢◌, ◌⊎◌, ℕ, ◌+◌, ◌<◌, Bool, IsTrue, List, length, slice_index, slice_index_or}
use Rattle.lattice_grid.specs.declared.shape.Place.{Place}
use Rattle.lattice_grid.specs.Rectangle.{Size}
use Rattle.lattice_grid.specs.Path.{IsWithin, AreFourNeighbours, IsCrossing}
use Rattle.path_meaning.specs.Closed.{IsOn}
use Rattle.path_meaning.specs.Stamps.{Stamps, is_marked, HasRoom}

-- Some list of on-cells, each a four-neighbour of the one before, leads from the top row to p.
abbrev pub IsReached : Size → (Place → Bool) → Place → Type 0
IsReached s on p = (path : List Place) × IsCrossing s on AreFourNeighbours (λ q. q.row ≡ 0) (λ q. q ≡ p) path

abbrev pub IsWaiting : Stamps → Place → Type 0
IsWaiting m p = (k : ℕ) × (k < m.waiting) × (slice_index_or m.stack k p ≡ p)

-- The cell is above the bottom row, and its neighbours that are on are marked.
pub record IsDone (s : Size) (on : Place → Bool) (m : Stamps) (p : Place) : Type 0 where
  pub above : p.row + 1 ≢ s.rows
  pub marked : (q : Place) → AreFourNeighbours p q → IsOn s on q → IsTrue (is_marked s m q)

-- The marked cells are reached; each is done or waits, but for those that are being looked at.
pub record IsFlood (s : Size) (on : Place → Bool) (Open : Place → Type 0) (m : Stamps) : Type 0 where
  pub room : HasRoom s m
  pub listed : (k : ℕ) (d : Place) → k < m.waiting → IsWithin s (slice_index_or m.stack k d) × IsTrue (is_marked s m (slice_index_or m.stack k d))
  pub reached : (p : Place) → IsWithin s p → IsTrue (is_marked s m p) → IsReached s on p
  pub settled : (p : Place) → IsWithin s p → IsTrue (is_marked s m p) → (IsDone s on m p ⊎ IsWaiting m p) ⊎ Open p

-- no cell is being looked at
abbrev pub NoCell : Place → Type 0
NoCell p = ⊥

-- The on-cells of the top row, up to a column, are marked.
abbrev pub TopIsMarked : Size → (Place → Bool) → ℕ → Stamps → Type 0
TopIsMarked s on n m = (p : Place) → IsOn s on p → p.row ≡ 0 → p.col < n → IsTrue (is_marked s m p)

-- nothing is marked in this round, and nothing waits
pub record IsFresh (old new : Stamps) : Type 0 where
  pub stamps : length new.stamps ≡ length old.stamps
  pub same : length new.stack ≡ length new.stamps
  pub waiting : new.waiting ≡ 0
  pub unmarked : (k : ℕ) → slice_index new.stamps k ≢ new.round
