-- The lattice of pairs over rails, or the first pair of assignments that no allowed literal tells apart.
use Rattle.std.specs.Prelude.{◌≡◌, ◌↔◌, ℕ, ◌<◌, ◌^◌, ◌&&◌, Bool, true, false, not, List, [], ◌∷◌, map, Option, Some, None, find, unwrap_or}
use Rattle.std.specs.Option.{is_none}
use Rattle.std.specs.List.{flat_map}
use Rattle.std.specs.FinSet as set
use Rattle.cube_core.specs.Function.{Function, IsFunction}
use Rattle.cube_core.specs.Rising.{rising}
use Rattle.lattice_grid.specs.declared.control.Control.{Control}
use Rattle.lattice_grid.specs.declared.control.Control.TheVariants.{Zero, One}
use Rattle.lattice_grid.specs.declared.start.Start.{Start}
use Rattle.lattice_grid.specs.declared.start.Start.TheVariants.{Grid, Lacking}
use Rattle.lattice_grid.specs.Control.{value_of}
use Rattle.lattice_grid.specs.Lattice.{Lattice, IsLattice, IsOver}
use Rattle.lattice_grid.specs.Pairs.{single}
use Rattle.lattice_grid.specs.Rails.{MayStand, IsOverRails, IsFull, literals_of}
use Rattle.lattice_grid.specs.Realise.{Realises}
use Rattle.lattice_grid.specs.Told.{told_lattice}

-- whether a control is 1 at x and 0 at y
abbrev pub tells : ℕ → ℕ → Control → Bool
tells x y c = value_of c x && not (value_of c y)

-- of literals by rising inputs, the first that is 1 at x and 0 at y: that of the least input that has one
abbrev pub telling_among : List Control → ℕ → ℕ → Option Control
telling_among literals x y = find (tells x y) literals

-- the pairs of an on and an off assignment, by rising on assignments, and for each of them by rising off assignments
abbrev pub pairs_in : List ℕ → List ℕ → List (ℕ × ℕ)
pairs_in ons offs = flat_map (λ x. map (λ y. (x, y)) offs) ons

-- the first of them that no literal tells apart
abbrev pub lacking_in : List Control → List ℕ → List ℕ → Option (ℕ × ℕ)
lacking_in literals ons offs = find (λ pair. is_none (telling_among literals pair.0 pair.1)) (pairs_in ons offs)

-- One column for each on assignment and one row for each off assignment; the cell is the literal that tells them apart.
abbrev pub lattice_among : List Control → List ℕ → List ℕ → Lattice
lattice_among literals ons offs = told_lattice (λ x y. unwrap_or (telling_among literals x y) One) ons offs

-- that pair, where there is one, and else the lattice
abbrev pub pair_or : Option (ℕ × ℕ) → Lattice → Start
pair_or None g = Grid g
pair_or (Some pair) g = Lacking pair.0 pair.1

-- for on assignments and off assignments in order: one cell `0` where there is no on assignment, else one cell `1` where there is no off assignment
abbrev pub start_between : List Control → List ℕ → List ℕ → Start
start_between literals [] offs = Grid (single Zero)
start_between literals (x ∷ ons) [] = Grid (single One)
start_between literals (x ∷ ons) (y ∷ offs) = pair_or (lacking_in literals (x ∷ ons) (y ∷ offs)) (lattice_among literals (x ∷ ons) (y ∷ offs))

-- of a function and rails
abbrev pub pairs_over : Function → ℕ → Start
pairs_over f rails = start_between (literals_of f.inputs rails) (rising (2 ^ f.inputs) f.on) (rising (2 ^ f.inputs) f.off)

-- Some allowed literal of the inputs below n is 1 at x and 0 at y.
pub record AreToldApart (n rails x y : ℕ) : Type 0 where
  pub literal : Control
  pub stands : MayStand n rails literal
  pub on : value_of literal x ≡ true
  pub off : value_of literal y ≡ false

-- Of the on assignments that no allowed literal tells from some off assignment x is the least, and y is the least of those off assignments.
pub record IsFirstLacking (f : Function) (rails x y : ℕ) : Type 0 where
  pub on : set.contains f.on x ≡ true
  pub off : set.contains f.off y ≡ true
  pub alike : AreToldApart f.inputs rails x y → ⊥
  pub least_on : (a b : ℕ) → a < x → set.contains f.on a ≡ true → set.contains f.off b ≡ true → AreToldApart f.inputs rails a b
  pub least_off : (b : ℕ) → b < y → set.contains f.off b ≡ true → AreToldApart f.inputs rails x b

-- A pair is lacking exactly where it is the first that no allowed literal tells apart.
abbrev pub IsLackingFirst : Type 0
IsLackingFirst = (f : Function) (rails x y : ℕ) → IsFunction f → (pairs_over f rails ≡ Lacking x y) ↔ IsFirstLacking f rails x y

-- No lattice over the inputs and the rails realises the function.
abbrev pub NeverRealised : Function → ℕ → Type 0
NeverRealised f rails = (g : Lattice) → IsLattice g → IsOverRails f.inputs rails g → Realises g f → ⊥

-- So it is where a pair is lacking.
abbrev pub IsLackingFinal : Type 0
IsLackingFinal = (f : Function) (rails x y : ℕ) → IsFunction f → pairs_over f rails ≡ Lacking x y → NeverRealised f rails

-- Otherwise the lattice of pairs is over the inputs and the rails and realises the function.
abbrev pub IsStartRight : Type 0
IsStartRight = (f : Function) (rails : ℕ) (g : Lattice) → IsFunction f → pairs_over f rails ≡ Grid g → IsLattice g × IsOverRails f.inputs rails g × Realises g f

-- Where all literals are allowed a lattice over the inputs is one over the inputs and the rails.
abbrev pub IsOverFull : Type 0
IsOverFull = (n rails : ℕ) (g : Lattice) → IsFull n rails → IsOver n g ↔ IsOverRails n rails g

-- what is true of the lattice, where there is one, and of the pair, where there is one
abbrev pub MatchStart : Start → (Lattice → Type 0) → (ℕ → ℕ → Type 0) → Type 0
MatchStart (Grid g) P Q = P g
MatchStart (Lacking x y) P Q = Q x y
