-- The lattice that a valuation chooses, whatever function is asked for.
use Rattle.std.specs.Prelude.{◌≡◌, ℕ, ◌+◌, ◌*◌, ◌<◌, ◌≤◌, Bool, true, List, length, map, slice_index_or}
use Rattle.cube_core.specs.Rising.{least_from}
use Rattle.clause_core.specs.Formula.{value_in, IsSatisfiedBy}
use Rattle.lattice_grid.specs.declared.control.Control.{Control}
use Rattle.lattice_grid.specs.declared.control.Control.TheVariants.{Zero}
use Rattle.lattice_grid.specs.Lattice.{Lattice}
use Rattle.lattice_grid.specs.Rails.{controls_of}
use Rattle.lattice_grid.specs.Rectangle.{Size}
use Rattle.reach_encoding.specs.Encoding.{Question, IsQuestion, below, encoding}

-- whether a valuation chooses control c at cell p, of so many controls
abbrev pub is_chosen : ℕ → List Bool → ℕ → ℕ → Bool
is_chosen many values p c = value_in values (p * many + c + 1)

-- some control is chosen at cell p
abbrev pub ChoosesAt : ℕ → List Bool → ℕ → Type 0
ChoosesAt many values p = (c : ℕ) × (c < many) × (is_chosen many values p c ≡ true)

-- The valuation has the variables of the choices, and chooses some control at each cell.
pub record Chooses (many : ℕ) (s : Size) (values : List Bool) : Type 0 where
  pub wide : s.rows * s.cols * many ≤ length values
  pub some : (p : ℕ) → p < s.rows * s.cols → ChoosesAt many values p

-- the first control that is chosen at cell p
abbrev pub chosen_in : ℕ → List Bool → ℕ → ℕ
chosen_in many values p = least_from (is_chosen many values p) many 0

-- the lattice of the first chosen controls
abbrev pub chosen_lattice : List Control → Size → List Bool → Lattice
chosen_lattice controls s values = record { size = s; cells = map (λ p. slice_index_or controls (chosen_in (length controls) values p) Zero) (below (s.rows * s.cols)) }

-- The question has so many inputs and these rails, and asks for this size.
pub record IsAskedOf (inputs rails : ℕ) (s : Size) (q : Question) : Type 0 where
  pub inputs_are : q.function.inputs ≡ inputs
  pub rails_are : q.rails ≡ rails
  pub size_is : q.size ≡ s

-- A valuation that satisfies the formula of a question chooses some control at each cell.
abbrev pub IsChoosing : Type 0
IsChoosing = (q : Question) (values : List Bool) → IsQuestion q → IsSatisfiedBy values (encoding q) → Chooses (length (controls_of q.function.inputs q.rails)) q.size values
