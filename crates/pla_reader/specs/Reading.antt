-- What a text is: a value, or a refusal.
use Rattle.std.specs.Prelude.{◌≡◌, ℕ, ◌+◌, ◌≤◌, ◌<◌, ◌⊎◌, Bool, true, false, List, [], ◌∷◌, length, map, take, slice_index_or, Option, Some, None, if◌then◌else◌}
use Rattle.std.specs.List.{sum_by}
use Rattle.std.specs.FinSet as set
use Rattle.cube_core.specs.Members.{AreDisjoint, IsLeast}
use Rattle.pla_reader.specs.declared.fault.LineFault.{LineFault}
use Rattle.pla_reader.specs.declared.fault.LineFault.TheVariants as faults
use Rattle.pla_reader.specs.declared.pla.PlaRefusal.{PlaRefusal}
use Rattle.pla_reader.specs.declared.pla.PlaRefusal.TheVariants.{TooLong, BadByte, UnknownWord, Unsupported, Repeated, BadNumber, Late, Missing, Inputs, Outputs, RowLength, BadDigit, Names, TooManyRows, Conflict}
use Rattle.pla_reader.specs.declared.marked.Marked.{Marked}
use Rattle.pla_reader.specs.Lines.{Line, lines_of, line_length}
use Rattle.pla_reader.specs.Says.{Said, said_by}
use Rattle.pla_reader.specs.Says.Said.{Spoiled, Silent, Unknown, Foreign, GivesInputs, GivesOutputs, GivesKind, NamesInputs, NamesOutputs, GivesRow, Ends}
use Rattle.pla_reader.specs.Given.{first_said, input_names_said, output_names_said, rows_of, inputs_of, outputs_of, are_given, kind_of_lines}
use Rattle.pla_reader.specs.Faults.{fault_after}
use Rattle.pla_reader.specs.Sets.{sets_of, functions_to}
use Rattle.pla_reader.specs.Names.{default_names}
use Rattle.pla_reader.specs.Parts.{Parts}

abbrev pub is_end : Said → Bool
is_end Spoiled = false
is_end Silent = false
is_end Unknown = false
is_end Foreign = false
is_end (GivesInputs number) = false
is_end (GivesOutputs number) = false
is_end (GivesKind kind) = false
is_end (NamesInputs names) = false
is_end (NamesOutputs names) = false
is_end (GivesRow digits) = false
is_end Ends = true

-- the lines up to the one that ends the PLA, with it; all lines where none does
abbrev pub through_end : List Line → List Line
through_end [] = []
through_end (line ∷ lines) = line ∷ (if is_end (said_by line) then [] else through_end lines)

-- the lines of a text that are looked at
abbrev pub lines_read : List ℕ → List Line
lines_read bytes = through_end (lines_of bytes)

-- what they say
abbrev pub said_in : List ℕ → List Said
said_in bytes = map said_by (lines_read bytes)

-- the fault of line k, which the k lines before it judge
abbrev pub fault_at : List Said → ℕ → Option LineFault
fault_at said k = fault_after (take k said) (slice_index_or said k Silent)

-- None of the first n lines has a fault.
abbrev pub AreSound : List Said → ℕ → Type 0
AreSound said n = (k : ℕ) → k < n → fault_at said k ≡ None

-- names, or the default names with this letter
abbrev pub names_or : ℕ → ℕ → Option (List (List ℕ)) → List (List ℕ)
names_or letter many (Some names) = names
names_or letter many None = default_names letter many

-- the assignments that rows name on, off and don't-care for output k
abbrev pub sets_in : List Said → ℕ → Marked
sets_in said k = sets_of (kind_of_lines said) (inputs_of said) (rows_of said) k

-- No assignment is named both on and off for output k.
abbrev pub IsClear : List Said → ℕ → Type 0
IsClear said k = AreDisjoint (sets_in said k).on (sets_in said k).off

-- what sound lines give, and the place after them
abbrev pub parts_said : List Said → ℕ → Parts
parts_said said rest = record {
  inputs = inputs_of said;
  outputs = outputs_of said;
  input_names = names_or 120 (inputs_of said) (first_said input_names_said said);
  output_names = names_or 102 (outputs_of said) (first_said output_names_said said);
  functions = functions_to (kind_of_lines said) (inputs_of said) (rows_of said) (outputs_of said);
  rest = rest;
}

-- The text is short enough, no line of it has a fault, both numbers are given, and no output has a conflict; then it is read as these parts.
pub record Reads (bytes : List ℕ) (parts : Parts) : Type 0 where
  pub few : length bytes ≤ 4194304
  pub sound : AreSound (said_in bytes) (length (said_in bytes))
  pub given : are_given (said_in bytes) ≡ true
  pub clear : (k : ℕ) → k < outputs_of (said_in bytes) → IsClear (said_in bytes) k
  pub gives : parts ≡ parts_said (said_in bytes) (sum_by line_length (lines_read bytes))

-- the refusal of a line with a number
abbrev pub refusal_at : LineFault → ℕ → PlaRefusal
refusal_at faults.BadByte line = BadByte line
refusal_at faults.UnknownWord line = UnknownWord line
refusal_at faults.Unsupported line = Unsupported line
refusal_at faults.Repeated line = Repeated line
refusal_at faults.BadNumber line = BadNumber line
refusal_at faults.Late line = Late line
refusal_at faults.Missing line = Missing line
refusal_at faults.Inputs line = Inputs line
refusal_at faults.Outputs line = Outputs line
refusal_at faults.RowLength line = RowLength line
refusal_at faults.BadDigit line = BadDigit line
refusal_at faults.Names line = Names line
refusal_at faults.TooManyRows line = TooManyRows line

-- The first faulty line has this refusal. Lines are numbered from 1.
pub record IsLineRefused (said : List Said) (refusal : PlaRefusal) : Type 0 where
  pub line : ℕ
  pub fault : LineFault
  pub within : line < length said
  pub before : AreSound said line
  pub here : fault_at said line ≡ Some fault
  pub answer : refusal ≡ refusal_at fault (line + 1)

-- No line has a fault, but a number is missing at the text's end, whose line number is one more than the line feeds.
pub record IsEndRefused (bytes : List ℕ) (refusal : PlaRefusal) : Type 0 where
  pub before : AreSound (said_in bytes) (length (said_in bytes))
  pub missing : are_given (said_in bytes) ≡ false
  pub answer : refusal ≡ Missing (length (lines_of bytes))

-- No line has a fault and nothing is missing, but at the least such output an assignment is named on and off, and this is the least.
pub record IsConflict (said : List Said) (refusal : PlaRefusal) : Type 0 where
  pub output : ℕ
  pub assign : ℕ
  pub before : AreSound said (length said)
  pub given : are_given said ≡ true
  pub within : output < outputs_of said
  pub earlier : (k : ℕ) → k < output → IsClear said k
  pub least : IsLeast (set.intersection (sets_in said output).on (sets_in said output).off) assign
  pub answer : refusal ≡ Conflict output assign

-- The text is refused so.
abbrev pub Refused : List ℕ → PlaRefusal → Type 0
Refused bytes refusal =
    ((4194304 < length bytes) × (refusal ≡ TooLong))
    ⊎ ((length bytes ≤ 4194304) × (IsLineRefused (said_in bytes) refusal ⊎ (IsEndRefused bytes refusal ⊎ IsConflict (said_in bytes) refusal)))
