-- What a plain text means: for each output the assignments that rows with the mark `1` cover and none with `-` does, and those that neither covers.
use Rattle.std.specs.Prelude.{ℕ, suc, zero, ◌++◌, Bool, true, false, ◌&&◌, ◌==◌, ◌^◌, List, [], ◌∷◌, length, slice_index, if◌then◌else◌, Some, None}
use Rattle.std.specs.declared.option.Option.{Option}
use Rattle.std.specs.List.{list_any}
use Rattle.std.specs.FinSet as set
use Rattle.cube_core.specs.Assignment.{bit}
use Rattle.cube_core.specs.Cube.{agrees, each_below}
use Rattle.cube_core.specs.Members.{Assignments, passing_below, complement_of}
use Rattle.cube_core.specs.Function.{Function}
use Rattle.pla_reader.specs.Plain.{RowText, Plain}

-- the literal that a digit stands for: `0` and `1` want that value of their input, `-` wants none
abbrev pub literal_of : ℕ → Option Bool
literal_of digit = if digit == 48 then Some false else if digit == 49 then Some true else None

-- whether each input has the value that its digit wants
unfoldable pub allows : List ℕ → ℕ → Bool
allows digits x = each_below (λ i. agrees (literal_of (slice_index digits i)) (bit x i)) (length digits)

-- whether the row marks output k so and covers x
abbrev pub covers : ℕ → ℕ → ℕ → RowText → Bool
covers mark k x row = (slice_index row.marks k == mark) && allows row.digits x

-- of the assignments below n those that a row with this mark for output k covers
abbrev pub marked_below : ℕ → List RowText → ℕ → ℕ → Assignments
marked_below mark rows k n = passing_below (λ x. list_any (covers mark k x) rows) n

-- the assignments that a row with the mark `1` for output k covers, and those that a row with `-` covers
unfoldable pub ones_of : Plain → ℕ → Assignments
ones_of plain k = marked_below 49 plain.rows k (2 ^ plain.inputs)

unfoldable pub dashes_of : Plain → ℕ → Assignments
dashes_of plain k = marked_below 45 plain.rows k (2 ^ plain.inputs)

-- a row with `-` wins over one with `1`; all that no row with either covers is off
abbrev pub function_of : Plain → ℕ → Function
function_of plain k = record {
  inputs = plain.inputs;
  on = set.difference (ones_of plain k) (dashes_of plain k);
  off = complement_of plain.inputs (set.union (ones_of plain k) (dashes_of plain k));
}

-- the functions of the first outputs, so many
abbrev pub functions_below : Plain → ℕ → List Function
functions_below plain zero = []
functions_below plain (suc k) = functions_below plain k ++ function_of plain k ∷ []

-- the function of each output, in order
abbrev pub functions_of : Plain → List Function
functions_of plain = functions_below plain plain.outputs
