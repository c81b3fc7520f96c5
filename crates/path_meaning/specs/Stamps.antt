-- What a flood over the cells of a rectangle keeps: which cells are marked, and which of them wait to be looked at.
use Rattle.std.specs.Prelude.{◌≡◌, ℕ, ◌+◌, ◌*◌, ◌<◌, ◌≤◌, ◌&&◌, ◌==◌, Bool, not, List, length, All, slice_index, slice_index_or, slice_set, if◌then◌else◌}
use Rattle.std.specs.List.{count_by}
use Rattle.lattice_grid.specs.declared.shape.Place.{Place}
use Rattle.lattice_grid.specs.Rectangle.{Size}
use Rattle.lattice_grid.specs.Neighbours.{near_cell, has_near}

-- for each cell the round in which it was last marked, room for the cells that wait, how many wait, and the round
pub record Stamps : Type 0 where
  pub stamps : List ℕ
  pub stack : List Place
  pub waiting : ℕ
  pub round : ℕ

-- what the stamps always keep
pub record IsStamps (m : Stamps) : Type 0 where
  pub same : length m.stack ≡ length m.stamps
  pub few : m.waiting ≤ length m.stack
  pub past : All (λ stamp. stamp ≤ m.round) m.stamps

-- the cell with this index is marked, and waits
unfoldable pub pushed : ℕ → Place → Stamps → Stamps
pushed i p m = record { stamps = slice_set m.stamps i m.round; stack = slice_set m.stack m.waiting p; waiting = m.waiting + 1; round = m.round }

-- the index of a cell, row by row
abbrev pub index_of : Size → Place → ℕ
index_of s p = p.row * s.cols + p.col

-- whether a cell is marked in this round
abbrev pub is_marked : Size → Stamps → Place → Bool
is_marked s m p = slice_index m.stamps (index_of s p) == m.round

-- A cell that is on and not marked is marked, and waits.
unfoldable pub visited : Size → (Place → Bool) → Place → Stamps → Stamps
visited s on p m = if not (is_marked s m p) && on p then pushed (index_of s p) p m else m

-- the same of a cell near p, where the rectangle has it
unfoldable pub visited_near : Size → (Place → Bool) → Place → ℕ → ℕ → Stamps → Stamps
visited_near s on p down right m = if has_near s p down right then visited s on (near_cell p down right) m else m

-- the four-neighbours of p are visited
unfoldable pub spread : Size → (Place → Bool) → Place → Stamps → Stamps
spread s on p m = visited_near s on p 2 1 (visited_near s on p 1 2 (visited_near s on p 1 0 (visited_near s on p 0 1 m)))

-- how many cells wait or may still be marked
abbrev pub left_of : Stamps → ℕ
left_of m = count_by (λ stamp. not (stamp == m.round)) m.stamps + m.waiting

-- There are stamps for the cells of a rectangle, and each cell that may be marked has room to wait.
pub record HasRoom (s : Size) (m : Stamps) : Type 0 where
  pub cells : s.rows * s.cols ≤ length m.stamps
  pub same : length m.stack ≡ length m.stamps
  pub left : left_of m ≤ length m.stamps

-- The last cell that waits is taken.
pub record Pops (old : Stamps) (p : Place) (new : Stamps) : Type 0 where
  pub some : old.waiting ≡ new.waiting + 1
  pub within : new.waiting < length old.stack
  pub place : (d : Place) → slice_index_or old.stack new.waiting d ≡ p
  pub stamps : new.stamps ≡ old.stamps
  pub stack : new.stack ≡ old.stack
  pub round : new.round ≡ old.round
