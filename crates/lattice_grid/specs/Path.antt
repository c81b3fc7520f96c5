-- Cells of a rectangle, and lists of neighbouring cells that lead from one side to the other. They are stated of any
-- set of cells, so that they serve grids with and without defects.
use Rattle.std.specs.Prelude.{◌≡◌, ◌≢◌, ℕ, ◌+◌, ◌<◌, ◌≤◌, ◌⊎◌, Bool, true, not, List, [], ◌∷◌, All}
use Rattle.lattice_grid.specs.declared.shape.Place.{Place}
use Rattle.lattice_grid.specs.Rectangle.{Size}

-- a cell of the rectangle
abbrev pub IsWithin : Size → Place → Type 0
IsWithin s p = (p.row < s.rows) × (p.col < s.cols)

-- two numbers that differ by one
abbrev pub DifferByOne : ℕ → ℕ → Type 0
DifferByOne a b = (a + 1 ≡ b) ⊎ (b + 1 ≡ a)

-- two numbers that differ by at most one
abbrev pub DifferByAtMostOne : ℕ → ℕ → Type 0
DifferByAtMostOne a b = (a ≤ b + 1) × (b ≤ a + 1)

-- two cells that differ by one in exactly one coordinate
abbrev pub AreFourNeighbours : Place → Place → Type 0
AreFourNeighbours p q = ((p.row ≡ q.row) × DifferByOne p.col q.col) ⊎ ((p.col ≡ q.col) × DifferByOne p.row q.row)

-- two different cells that differ by at most one in each coordinate
abbrev pub AreEightNeighbours : Place → Place → Type 0
AreEightNeighbours p q = (p ≢ q) × DifferByAtMostOne p.row q.row × DifferByAtMostOne p.col q.col

-- Each cell after the first is related to the one before it.
abbrev pub IsChain : (Place → Place → Type 0) → List Place → Type 0
IsChain R [] = Unit {0}
IsChain R (p ∷ []) = Unit {0}
IsChain R (p ∷ q ∷ rest) = R p q × IsChain R (q ∷ rest)

-- P holds of the first cell; there is one.
abbrev pub First : (Place → Type 0) → List Place → Type 0
First P [] = ⊥
First P (p ∷ rest) = P p

-- P holds of the last cell; there is one.
abbrev pub Last : (Place → Type 0) → List Place → Type 0
Last P [] = ⊥
Last P (p ∷ []) = P p
Last P (p ∷ q ∷ rest) = Last P (q ∷ rest)

-- A list of cells of a rectangle, all in the set, each next one a neighbour of the one before, from the first side to the last.
pub record IsCrossing (s : Size) (set : Place → Bool) (R : Place → Place → Type 0) (Start End : Place → Type 0) (path : List Place) : Type 0 where
  pub inside : All (IsWithin s) path
  pub in_set : All (λ p. set p ≡ true) path
  pub chained : IsChain R path
  pub starts : First Start path
  pub ends : Last End path

-- Some list of on-cells, each a four-neighbour of the one before, leads from the top row to the bottom row.
abbrev pub JoinedBy : Size → (Place → Bool) → Type 0
JoinedBy s set = (path : List Place) × IsCrossing s set AreFourNeighbours (λ p. p.row ≡ 0) (λ p. p.row + 1 ≡ s.rows) path

-- Some list of cells that are not on, each an eight-neighbour of the one before, leads from the left column to the right column.
abbrev pub CutBy : Size → (Place → Bool) → Type 0
CutBy s set = (path : List Place) × IsCrossing s (λ p. not (set p)) AreEightNeighbours (λ p. p.col ≡ 0) (λ p. p.col + 1 ≡ s.cols) path
