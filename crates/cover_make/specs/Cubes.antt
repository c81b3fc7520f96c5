-- Lists of cubes.
use Rattle.std.specs.Prelude.{◌≡◌, ℕ, ◌<◌, ◌≤◌, ◌^◌, Bool, true, Some, List, All}
use Rattle.std.specs.List.{list_any}
use Rattle.std.specs.FinSet as set
use Rattle.cube_core.specs.Members.{Assignments, passing_below, complement_of}
use Rattle.cube_core.specs.Cube.{Product, IsProduct, literal_of, in_cube}

-- so many inputs, and cubes in their order
pub record Products : Type 0 where
  pub inputs : ℕ
  pub cubes : List Product

-- each literal of the cube is of one of so many inputs
abbrev pub HasInputsBelow : ℕ → Product → Type 0
HasInputsBelow inputs c = (i : ℕ) (wanted : Bool) → literal_of c i ≡ Some wanted → i < inputs

-- what a list of cubes keeps: 1 to 10 inputs, and cubes whose literals are of these
pub record AreProducts (list : Products) : Type 0 where
  pub some : 1 ≤ list.inputs
  pub few : list.inputs ≤ 10
  pub products : All IsProduct list.cubes
  pub literals : All (HasInputsBelow list.inputs) list.cubes

-- whether some cube of the list has the assignment
abbrev pub has : List Product → ℕ → Bool
has cubes x = list_any (λ c. in_cube c x) cubes

-- the assignments of so many inputs that are in some cube of the list
unfoldable pub table_of : ℕ → List Product → Assignments
table_of inputs cubes = passing_below (has cubes) (2 ^ inputs)

-- the assignments of the inputs that no cube of the list has
abbrev pub uncovered_by : Products → Assignments
uncovered_by list = complement_of list.inputs (table_of list.inputs list.cubes)

-- Each assignment of the set is in some cube of the list.
abbrev pub Covers : List Product → Assignments → Type 0
Covers cubes s = (x : ℕ) → set.contains s x ≡ true → has cubes x ≡ true
