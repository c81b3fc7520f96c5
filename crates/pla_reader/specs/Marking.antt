-- The sets of all outputs, while rows are read.
use Rattle.std.specs.Prelude.{◌≡◌, ℕ, ◌+◌, ◌<◌, ◌^◌, Bool, List, length, take, slice_index, slice_index_or, if◌then◌else◌}
use Rattle.std.specs.FinSet as set
use Rattle.cube_core.specs.Members.{Assignments, AllBelow, AreDisjoint, IsLeast, passing_below}
use Rattle.cube_core.specs.Function.{Function}
use Rattle.pla_reader.specs.declared.kind.Kind.{Kind}
use Rattle.pla_reader.specs.declared.marked.Marked.{Marked}
use Rattle.pla_reader.specs.declared.pla.PlaRefusal.{PlaRefusal}
use Rattle.pla_reader.specs.declared.pla.PlaRefusal.TheVariants.{Conflict}
use Rattle.pla_reader.specs.Meaning.{allows}
use Rattle.pla_reader.specs.Sets.{marks_on, marks_off, marks_free, sets_of, functions_to}

-- a set with the assignments that are wanted in it
abbrev pub set_with : Bool → Assignments → Assignments → Assignments
set_with wanted covered s = if wanted then set.union s covered else s

-- the sets of an output after a row that covers these assignments and has this digit for it
abbrev pub sets_after : Kind → ℕ → Assignments → Marked → Marked
sets_after kind mark covered sets = record {
  on = set_with (marks_on mark) covered sets.on;
  off = set_with (marks_off kind mark) covered sets.off;
  free = set_with (marks_free kind mark) covered sets.free;
}

-- the assignments that a row covers, by its digits
abbrev pub covered_by : ℕ → List ℕ → Assignments
covered_by inputs digits = passing_below (allows (take inputs digits)) (2 ^ inputs)

-- The row is added to the sets of each output.
pub record Adds (kind : Kind) (inputs : ℕ) (digits : List ℕ) (old new : List Marked) : Type 0 where
  pub many : length new ≡ length old
  pub each : (k : ℕ) (s : Marked) → k < length old → slice_index_or new k s ≡ sets_after kind (slice_index digits (inputs + k)) (covered_by inputs digits) (slice_index_or old k s)

abbrev pub are_empty : Marked → Type 0
are_empty sets = sets ≡ record { on = set.empty; off = set.empty; free = set.empty }

-- For each output these are the sets of the rows.
pub record AreSets (kind : Kind) (inputs outputs : ℕ) (rows : List (List ℕ)) (sets : List Marked) : Type 0 where
  pub many : length sets ≡ outputs
  pub each : (k : ℕ) (s : Marked) → k < outputs → slice_index_or sets k s ≡ sets_of kind inputs rows k

-- The least output with an assignment that is named on and off is refused, with its least such assignment.
pub record IsClash (kind : Kind) (inputs outputs : ℕ) (rows : List (List ℕ)) (refusal : PlaRefusal) : Type 0 where
  pub output : ℕ
  pub assign : ℕ
  pub within : output < outputs
  pub earlier : (k : ℕ) → k < output → AreDisjoint (sets_of kind inputs rows k).on (sets_of kind inputs rows k).off
  pub least : IsLeast (set.intersection (sets_of kind inputs rows output).on (sets_of kind inputs rows output).off) assign
  pub answer : refusal ≡ Conflict output assign

-- The functions of the first outputs, so many, none of which has a conflict.
pub record AreFunctions (kind : Kind) (inputs outputs : ℕ) (rows : List (List ℕ)) (functions : List Function) : Type 0 where
  pub each : functions ≡ functions_to kind inputs rows outputs
  pub clear : (k : ℕ) → k < outputs → AreDisjoint (sets_of kind inputs rows k).on (sets_of kind inputs rows k).off

-- Each set has assignments of so many inputs alone.
pub record AreBelow (inputs : ℕ) (sets : Marked) : Type 0 where
  pub on : AllBelow (2 ^ inputs) sets.on
  pub off : AllBelow (2 ^ inputs) sets.off
  pub free : AllBelow (2 ^ inputs) sets.free
