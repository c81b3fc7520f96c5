-- The cover of a set of assignments within a larger one, the room.
use Rattle.std.specs.Prelude.{◌≡◌, ℕ, suc, zero, ◌<◌, ◌^◌, Bool, true, false, not, ◌&&◌, Some, List, [], ◌∷◌, ◌++◌, length, if◌then◌else◌}
use Rattle.std.specs.List.{remove}
use Rattle.std.specs.FinSet as set
use Rattle.cube_core.specs.Members.{Assignments}
use Rattle.cube_core.specs.Cube.{Product, literal_of, members_of_cube, IsInside}
use Rattle.cover_make.specs.Literals.{point_of, without}
use Rattle.cover_make.specs.Cubes.{Products, has, table_of, uncovered_by}

-- whether each assignment of so many inputs that is in the cube is in the room
abbrev pub is_inside : ℕ → Product → Assignments → Bool
is_inside inputs c room = set.is_subset (members_of_cube inputs c) room

-- the expansion of a cube: of inputs 0, 1, .. below n in turn its literal is dropped, if the cube without it stays inside the room
abbrev pub expansion : ℕ → Assignments → Product → ℕ → Product
expansion inputs room c zero = c
expansion inputs room c (suc n) =
    let d = expansion inputs room c n in
    if is_inside inputs (without d n) room then without d n else d

-- the expansion of the cube of one assignment
abbrev pub expansion_from : ℕ → Assignments → ℕ → Product
expansion_from inputs room x = expansion inputs room (point_of inputs x) inputs

-- the expansions from the assignments of need below n, in rising order, but for those that a cube found before has
abbrev pub expansions_below : ℕ → Assignments → Assignments → ℕ → List Product
expansions_below inputs need room zero = []
expansions_below inputs need room (suc n) =
    let before = expansions_below inputs need room n in
    if set.contains need n && not (has before n) then before ++ expansion_from inputs room n ∷ [] else before

-- whether some cube of the list has each assignment of need
abbrev pub covers : ℕ → List Product → Assignments → Bool
covers inputs cubes need = set.is_subset need (table_of inputs cubes)

-- of a list the cubes that are kept, from the first to the last, behind those kept before: each without which these and
-- the later ones do not cover need
abbrev pub irredundant_part : ℕ → Assignments → List Product → List Product → List Product
irredundant_part inputs need before [] = []
irredundant_part inputs need before (c ∷ later) =
    if covers inputs (before ++ later) need then irredundant_part inputs need before later else c ∷ irredundant_part inputs need (before ++ c ∷ []) later

-- the cover of need within the room: of the expansions from all assignments of need the irredundant part
unfoldable pub cover_of : ℕ → Assignments → Assignments → List Product
cover_of inputs need room = irredundant_part inputs need [] (expansions_below inputs need room (2 ^ inputs))

-- the cover of all assignments that no cube of a list has, within these
abbrev pub off_cover_of : Products → List Product
off_cover_of list = cover_of list.inputs (uncovered_by list) (uncovered_by list)

-- A cube that loses any one of its literals is no longer inside the room.
abbrev pub IsPrime : ℕ → Assignments → Product → Type 0
IsPrime inputs room c = (i : ℕ) (wanted : Bool) → literal_of c i ≡ Some wanted → IsInside inputs (without c i) room → ⊥

-- An assignment of the set that no cube of the list has.
pub record IsMissed (cubes : List Product) (need : Assignments) (x : ℕ) : Type 0 where
  pub needed : set.contains need x ≡ true
  pub missed : has cubes x ≡ false

-- Without any one cube some assignment of the set is in none.
abbrev pub IsIrredundant : List Product → Assignments → Type 0
IsIrredundant cubes need = (place : ℕ) → place < length cubes → (x : ℕ) × IsMissed (remove cubes place) need x
