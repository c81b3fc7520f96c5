-- What solutions of an encoding and lattices have to do with one another.
use Rattle.std.specs.Prelude.{◌≡◌, ◌↔◌, ℕ, ◌<◌, ◌≤◌, ◌*◌, Bool, true, length, map, None}
use Rattle.cube_core.specs.Function.{Function, IsFunction}
use Rattle.cube_core.specs.Rising.{least_from}
use Rattle.clause_core.specs.Formula.{Satisfies, most_clauses}
use Rattle.lattice_grid.specs.Lattice.{Lattice, IsLattice}
use Rattle.lattice_grid.specs.Rails.{IsOverRails}
use Rattle.lattice_grid.specs.Realise.{IsRealised}
use Rattle.lattice_grid.specs.Rectangle.{Size, IsSize, FitsInside}
use Rattle.path_meaning.specs.Defective.{RealisesIn, IsRealisedIn}
use Rattle.reach_encoding.specs.Encoding.{Question, IsQuestion, below, cells_of, many_controls, choice, control_of, encoding, HasSolution}

-- the first control that is chosen at cell p
abbrev pub first_chosen : Question → (ℕ → Bool) → ℕ → ℕ
first_chosen q v p = least_from (λ c. v (choice q p c)) (many_controls q) 0

-- the lattice of the first chosen controls
abbrev pub lattice_read : Question → (ℕ → Bool) → Lattice
lattice_read q v = record { size = q.size; cells = map (λ p. control_of q (first_chosen q v p)) (below (cells_of q)) }

-- At each cell some control is chosen; and the lattice of the first ones is over the inputs and the rails, and realises the function with the defects.
pub record IsRead (q : Question) (v : ℕ → Bool) : Type 0 where
  pub chooses : (p : ℕ) → p < cells_of q → (c : ℕ) × (c < many_controls q) × (v (choice q p c) ≡ true)
  pub kept : IsLattice (lattice_read q v)
  pub over : IsOverRails q.function.inputs q.rails (lattice_read q v)
  pub realises : RealisesIn (lattice_read q v) q.function q.array

-- So it is of every solution.
abbrev pub IsReadAsLattice : Type 0
IsReadAsLattice = (q : Question) (v : ℕ → Bool) → IsQuestion q → Satisfies v (encoding q) → IsRead q v

-- The formula has a solution exactly where such a lattice exists.
abbrev pub IsSolvedByLattices : Type 0
IsSolvedByLattices = (q : Question) → IsQuestion q → HasSolution (encoding q) ↔ IsRealisedIn q.function.inputs q.rails q.function q.size q.array

-- the question of a lattice of a size, on no array
abbrev pub question_of : Function → ℕ → Size → Question
question_of f rails s = record { function = f; rails = rails; size = s; array = None }

-- Where the formula of a size has no solution, no lattice of a size that fits inside it realises the function over the inputs and the rails.
abbrev pub IsExcludedBelow : Type 0
IsExcludedBelow =
    (f : Function) (rails : ℕ) (small large : Size) → IsFunction f → IsSize large → large.rows * large.cols ≤ 32768 → FitsInside small large
    → (HasSolution (encoding (question_of f rails large)) → ⊥) → IsRealised f.inputs rails f small → ⊥

-- The formula is no larger than a formula may be.
abbrev pub IsSmallEnough : Type 0
IsSmallEnough = (q : Question) → IsQuestion q → length (encoding q).clauses ≤ most_clauses
