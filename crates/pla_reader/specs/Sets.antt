-- The sets of assignments that rows name, and the function that they make.
use Rattle.std.specs.Prelude.{ℕ, suc, zero, ◌+◌, ◌^◌, Bool, true, false, ◌&&◌, ◌||◌, List, [], ◌∷◌, ◌++◌, take, slice_index, ◌==◌}
use Rattle.std.specs.List.{list_any}
use Rattle.std.specs.FinSet as set
use Rattle.cube_core.specs.Members.{Assignments, passing_below, complement_of}
use Rattle.cube_core.specs.Function.{Function}
use Rattle.pla_reader.specs.declared.kind.Kind.{Kind}
use Rattle.pla_reader.specs.declared.kind.Kind.TheVariants.{F, Fd, Fr, Fdr}
use Rattle.pla_reader.specs.declared.marked.Marked.{Marked}
use Rattle.pla_reader.specs.Meaning.{allows}

-- `1` and `4` name assignments on
abbrev pub marks_on : ℕ → Bool
marks_on mark = (mark == 49) || (mark == 52)

-- whether the type has an off-set of its own
abbrev pub has_off : Kind → Bool
has_off F = false
has_off Fd = false
has_off Fr = true
has_off Fdr = true

-- whether the type has don't-cares
abbrev pub has_free : Kind → Bool
has_free F = false
has_free Fd = true
has_free Fr = false
has_free Fdr = true

-- `0` names assignments off, where the type has an off-set
abbrev pub marks_off : Kind → ℕ → Bool
marks_off kind mark = has_off kind && (mark == 48)

-- `-` and `2` name assignments don't-care, where the type has them
abbrev pub marks_free : Kind → ℕ → Bool
marks_free kind mark = has_free kind && ((mark == 45) || (mark == 50))

-- whether a row, by its digits, covers x and has such a mark for output k
abbrev pub row_names : (ℕ → Bool) → ℕ → ℕ → ℕ → List ℕ → Bool
row_names marks inputs k x digits = marks (slice_index digits (inputs + k)) && allows (take inputs digits) x

-- the assignments of so many inputs that rows name so for output k
abbrev pub named : (ℕ → Bool) → ℕ → List (List ℕ) → ℕ → Assignments
named marks inputs rows k = passing_below (λ x. list_any (row_names marks inputs k x) rows) (2 ^ inputs)

-- the assignments that rows name on, off and don't-care for output k
unfoldable pub sets_of : Kind → ℕ → List (List ℕ) → ℕ → Marked
sets_of kind inputs rows k = record {
  on = named marks_on inputs rows k;
  off = named (marks_off kind) inputs rows k;
  free = named (marks_free kind) inputs rows k;
}

-- where the function is 0
abbrev pub off_of : Kind → ℕ → Marked → Assignments
off_of F inputs sets = complement_of inputs sets.on
off_of Fd inputs sets = complement_of inputs (set.union sets.on sets.free)
off_of Fr inputs sets = sets.off
off_of Fdr inputs sets = set.difference sets.off sets.free

-- the function of the sets: a don't-care wins over on and off
abbrev pub function_of_sets : Kind → ℕ → Marked → Function
function_of_sets kind inputs sets = record { inputs = inputs; on = set.difference sets.on sets.free; off = off_of kind inputs sets }

-- the functions of the first outputs, so many
abbrev pub functions_to : Kind → ℕ → List (List ℕ) → ℕ → List Function
functions_to kind inputs rows zero = []
functions_to kind inputs rows (suc k) = functions_to kind inputs rows k ++ function_of_sets kind inputs (sets_of kind inputs rows k) ∷ []
