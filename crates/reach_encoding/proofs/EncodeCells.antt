-- The cells of a side, and those next to a cell, are cells.
use Rattle.std.proofs.Common.{◌≡◌, ℕ, ◌+◌, ◌*◌, ◌≤◌, ◌<◌, arith, List, length, get_or}
use Rattle.std.specs.Prelude.{All}
use Rattle.std.proofs.lemmas.Nat.{mul-add-lt}
use Rattle.std.proofs.lemmas.List.{get_or_default}
use Rattle.lattice_grid.specs.declared.shape.Place.{Place}
use Rattle.lattice_grid.specs.Neighbours.{HasNeighbours}
use Rattle.lattice_grid.specs.Path.{IsWithin}
use Rattle.lattice_grid.specs.Rectangle.{Size}
use Rattle.clause_core.specs.Formula.{IsOver}
use Rattle.reach_encoding.specs.Encoding.{Question, cells_of, many_controls, choice, yes}
use Rattle.reach_encoding.specs.EncodeParts.{vars_of, cells_along, choice_clause}
use Rattle.reach_encoding.proofs.EncodeLists.{All-below}
use Rattle.reach_encoding.proofs.EncodeNumbers.{choice_within}

abbrev IsLess : ℕ → ℕ → Type 0
IsLess many p = p < many

pub row_within : (rows cols row : ℕ) → row < rows → All (λ p. p < rows * cols) (cells_along (row * cols) 1 cols)
row_within rows cols row inside = All-below (IsLess (rows * cols)) (λ i. row * cols + i * 1) cols (λ i h. let low = mul-add-lt row cols i rows inside h in omega arith)

pub column_within : (rows cols col : ℕ) → col < cols → All (λ p. p < rows * cols) (cells_along col cols rows)
column_within rows cols col inside = All-below (IsLess (rows * cols)) (λ i. col + i * cols) rows (λ i h. let low = mul-add-lt i cols col rows h inside in omega arith)

pub all_within : (R : Place → Place → Type 0) (s : Size) (p : Place) (places : List Place) → HasNeighbours R s p places → All (IsWithin s) places
all_within R s p places h k d inside = ((h (get_or places k d)).0 (k, inside, get_or_same places k d inside)).0 where
  get_or_same : (xs : List Place) (i : ℕ) (e : Place) → i < length xs → get_or xs i (get_or xs i e) ≡ get_or xs i e
  get_or_same xs i e h = get_or_default xs i (get_or xs i e) e h

pub choice_clause_over : (q : Question) (p : ℕ) → p < cells_of q → IsOver (vars_of q) (choice_clause q p)
choice_clause_over q p h = All-below (λ l. (1 ≤ l.var) × (l.var ≤ vars_of q)) (λ c. yes (choice q p c)) (many_controls q) (λ c k. (omega arith, choice_within q p c h k))
