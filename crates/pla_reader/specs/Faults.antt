-- The fault of a line, judged by the lines before it.
use Rattle.std.specs.Prelude.{ℕ, ◌+◌, Bool, true, false, not, ◌&&◌, ◌||◌, List, [], ◌∷◌, length, take, drop, Option, Some, None, is_some, nat_le, ◌==◌, if◌then◌else◌}
use Rattle.std.specs.List.{list_any, list_all}
use Rattle.std.specs.Str.{bytes_eq}
use Rattle.pla_reader.specs.declared.fault.LineFault.{LineFault}
use Rattle.pla_reader.specs.declared.fault.LineFault.TheVariants.{BadByte, UnknownWord, Unsupported, Repeated, BadNumber, Late, Missing, Inputs, Outputs, RowLength, BadDigit, Names, TooManyRows}
use Rattle.pla_reader.specs.declared.kind.Kind.{Kind}
use Rattle.pla_reader.specs.Says.{Said}
use Rattle.pla_reader.specs.Says.Said.{Spoiled, Silent, Unknown, Foreign, GivesInputs, GivesOutputs, GivesKind, NamesInputs, NamesOutputs, GivesRow, Ends}
use Rattle.pla_reader.specs.Given.{inputs_said, outputs_said, kind_said, input_names_said, output_names_said, stands, rows_of, has_rows, inputs_of, outputs_of, are_given}

-- the first fault of a table whose test passes
abbrev pub first_of : List (Bool × LineFault) → Option LineFault
first_of [] = None
first_of (entry ∷ entries) = if entry.0 then Some entry.1 else first_of entries

-- whether there is a number, from 1 to the most
abbrev pub is_within : ℕ → Option ℕ → Bool
is_within most None = false
is_within most (Some n) = nat_le 1 n && nat_le n most

-- whether no two are equal
abbrev pub are_different : List (List ℕ) → Bool
are_different [] = true
are_different (name ∷ names) = not (list_any (bytes_eq name) names) && are_different names

-- `0`, `1`, `-` or `2`
abbrev pub is_input_digit : ℕ → Bool
is_input_digit b = (b == 48) || (b == 49) || (b == 45) || (b == 50)

-- `0`, `1`, `4`, `-`, `2` or `~`
abbrev pub is_output_digit : ℕ → Bool
is_output_digit b = (b == 48) || (b == 49) || (b == 52) || (b == 45) || (b == 50) || (b == 126)

-- of a row: digits of so many inputs, and then of outputs
abbrev pub are_digits : ℕ → List ℕ → Bool
are_digits inputs digits = list_all is_input_digit (take inputs digits) && list_all is_output_digit (drop inputs digits)

-- a line that gives a number: whether one stood before, whether a row did, the number, the most that it may be, and the fault of another number
abbrev pub number_fault : Bool → Bool → Option ℕ → ℕ → LineFault → Option LineFault
number_fault stood rows number most beyond =
    first_of ((stood, Repeated) ∷ (not (is_some number), BadNumber) ∷ (rows, Late) ∷ (not (is_within most number), beyond) ∷ [])

-- a line that gives the type
abbrev pub kind_fault : Bool → Bool → Option Kind → Option LineFault
kind_fault stood rows kind = first_of ((not (is_some kind), Unsupported) ∷ (stood, Repeated) ∷ (rows, Late) ∷ [])

-- a line that gives names: whether one stood before, whether a row did, whether their number was given, the number, and the names
abbrev pub names_fault : Bool → Bool → Bool → ℕ → List (List ℕ) → Option LineFault
names_fault stood rows given many names =
    first_of ((stood, Repeated) ∷ (rows, Late) ∷ (not given, Missing) ∷ (not ((length names == many) && are_different names), Names) ∷ [])

-- a row: whether both numbers were given, the numbers, how many rows stood before, and the digits
abbrev pub row_fault : Bool → ℕ → ℕ → ℕ → List ℕ → Option LineFault
row_fault given inputs outputs before digits =
    first_of
    ((not given, Missing) ∷ (not (length digits == inputs + outputs), RowLength) ∷ (not (are_digits inputs digits), BadDigit)
    ∷ (nat_le 65536 before, TooManyRows) ∷ [])

-- the first fault of a line, after the lines before it
abbrev pub fault_after : List Said → Said → Option LineFault
fault_after before Spoiled = Some BadByte
fault_after before Silent = None
fault_after before Unknown = Some UnknownWord
fault_after before Foreign = Some Unsupported
fault_after before (GivesInputs number) = number_fault (stands inputs_said before) (has_rows before) number 10 Inputs
fault_after before (GivesOutputs number) = number_fault (stands outputs_said before) (has_rows before) number 64 Outputs
fault_after before (GivesKind kind) = kind_fault (stands kind_said before) (has_rows before) kind
fault_after before (NamesInputs names) = names_fault (stands input_names_said before) (has_rows before) (stands inputs_said before) (inputs_of before) names
fault_after before (NamesOutputs names) = names_fault (stands output_names_said before) (has_rows before) (stands outputs_said before) (outputs_of before) names
fault_after before (GivesRow digits) = row_fault (are_given before) (inputs_of before) (outputs_of before) (length (rows_of before)) digits
fault_after before Ends = first_of ((not (are_given before), Missing) ∷ [])
