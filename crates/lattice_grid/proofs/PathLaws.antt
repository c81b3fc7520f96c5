-- Paths that go down a column, and that every path from the top to the bottom meets each row.
use Rattle.std.proofs.Common.{◌≡◌, ℕ, suc, zero, ◌+◌, ◌≤◌, ◌<◌, ◌⊎◌, inl, inr, Bool, true, List, [], ◌∷◌, refl, arith}
use Rattle.std.specs.Prelude.{All}
use Rattle.std.proofs.lemmas.List.Elements.{All-nil, All-cons, All-head, All-tail}
use Rattle.std.proofs.lemmas.Bool.Decides.{nat_tests}
use Rattle.lattice_grid.specs.declared.shape.Place.{Place}
use Rattle.lattice_grid.specs.Rectangle.{Size}
use Rattle.lattice_grid.specs.Path.{AreFourNeighbours, IsChain, Last, IsCrossing, JoinedBy}

pub below_or_above : (x n : ℕ) → (x < n) ⊎ (n ≤ x)
below_or_above x n = grind (arith, nat_tests)

-- the cells of a column from this row on, so many
abbrev pub down : ℕ → ℕ → ℕ → List Place
down col row zero = []
down col row (suc many) = record { row = row; col = col } ∷ down col (suc row) many

All-down : (P : Place → Type 0) (col row many : ℕ) → ((r : ℕ) → row ≤ r → r < row + many → P (record { row = r; col = col })) → All P (down col row many)
All-down P col row zero each = All-nil P
All-down P col row (suc many) each =
    All-cons P (record { row = row; col = col }) (down col (suc row) many) (each row (omega arith) (omega arith))
    (All-down P col (suc row) many (λ r low high. each r (omega arith) (omega arith)))

IsChain-down : (col row many : ℕ) → IsChain AreFourNeighbours (down col row many)
IsChain-down col row zero = tt
IsChain-down col row (suc zero) = tt
IsChain-down col row (suc (suc many)) = (inr (refl, inl (omega arith)), IsChain-down col (suc row) (suc many))

Last-down : (col row many rows : ℕ) → row + suc many ≡ rows → Last (λ p. p.row + 1 ≡ rows) (down col row (suc many))
Last-down col row zero rows e = omega arith
Last-down col row (suc many) rows e = Last-down col (suc row) many rows (omega arith)

-- a column of cells in the set leads from the top to the bottom
pub joined_by_column : (s : Size) (set : Place → Bool) (col : ℕ) → 1 ≤ s.rows → col < s.cols → ((r : ℕ) → r < s.rows → set (record { row = r; col = col }) ≡ true) → JoinedBy s set
joined_by_column s set col some within each = go s.rows refl some where
  go : (rows : ℕ) → rows ≡ s.rows → 1 ≤ rows → JoinedBy s set
  go zero e l = absurd (omega arith)
  go (suc many) e l = (
    down col 0 (suc many),
    record {
      inside = All-down (λ p. (p.row < s.rows) × (p.col < s.cols)) col 0 (suc many) (λ r low high. (omega arith, within));
      in_set = All-down (λ p. set p ≡ true) col 0 (suc many) (λ r low high. each r (omega arith));
      chained = IsChain-down col 0 (suc many);
      starts = refl;
      ends = Last-down col 0 many s.rows (omega arith);
    },
  )

-- some cell of the row that has P
pub record MeetsRow (P : Place → Type 0) (row : ℕ) : Type 0 where
  pub place : Place
  pub at : place.row ≡ row
  pub holds : P place

-- a step down is by one row at most
step_down : (p q : Place) → AreFourNeighbours p q → q.row ≤ p.row + 1
step_down p q near = elim near [
  | inl beside ↦ let same = beside.0 in omega arith
  | inr below ↦ elim below.1 [ inl down ↦ omega arith | inr up ↦ omega arith ]
]

-- A chain that begins in this row or above and ends in the last row meets this row.
pub meets_row : (P : Place → Type 0) (rows row : ℕ) → row < rows → (p : Place) (path : List Place) → All P (p ∷ path) → IsChain AreFourNeighbours (p ∷ path) → p.row ≤ row → Last (λ q. q.row + 1 ≡ rows) (p ∷ path) → MeetsRow P row
meets_row P rows row within p [] all chained above last = record { place = p; at = omega arith; holds = All-head P p [] all }
meets_row P rows row within p (q ∷ path) all chained above last = elim (below_or_above p.row row) [
  | inr here ↦ record { place = p; at = omega arith; holds = All-head P p (q ∷ path) all }
  | inl before ↦
      let step = step_down p q chained.0 in
      meets_row P rows row within q path (All-tail P p (q ∷ path) all) chained.1 (omega (arith, step)) last
]

-- A row without a cell of the set is not passed.
pub not_joined_past_row : (s : Size) (set : Place → Bool) (row : ℕ) → row < s.rows → ((p : Place) → p.row ≡ row → p.col < s.cols → set p ≡ true → ⊥) → JoinedBy s set → ⊥
not_joined_past_row s set row within none joined = go joined.0 joined.1 where
  go : (path : List Place) → IsCrossing s set AreFourNeighbours (λ p. p.row ≡ 0) (λ p. p.row + 1 ≡ s.rows) path → ⊥
  go [] h = h.starts
  go (p ∷ path) h =
      let top = h.starts in
      let met = meets_row (λ p. (p.col < s.cols) × (set p ≡ true)) s.rows row within p path (λ k d w. ((h.inside k d w).1, h.in_set k d w)) h.chained (omega (arith, top)) h.ends in
      none met.place met.at met.holds.0 met.holds.1
