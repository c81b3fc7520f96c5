-- What the lines so far gave.
use Rattle.std.specs.Prelude.{ℕ, Bool, ◌&&◌, List, [], ◌∷◌, length, Option, Some, None, is_some, nat_lt}
use Rattle.std.specs.List.{filter_map}
use Rattle.pla_reader.specs.declared.kind.Kind.{Kind}
use Rattle.pla_reader.specs.declared.kind.Kind.TheVariants.{Fd}
use Rattle.pla_reader.specs.Says.{Said}
use Rattle.pla_reader.specs.Says.Said.{Spoiled, Silent, Unknown, Foreign, GivesInputs, GivesOutputs, GivesKind, NamesInputs, NamesOutputs, GivesRow, Ends}

abbrev pub inputs_said : Said → Option (Option ℕ)
inputs_said Spoiled = None
inputs_said Silent = None
inputs_said Unknown = None
inputs_said Foreign = None
inputs_said (GivesInputs number) = Some number
inputs_said (GivesOutputs number) = None
inputs_said (GivesKind kind) = None
inputs_said (NamesInputs names) = None
inputs_said (NamesOutputs names) = None
inputs_said (GivesRow digits) = None
inputs_said Ends = None

abbrev pub outputs_said : Said → Option (Option ℕ)
outputs_said Spoiled = None
outputs_said Silent = None
outputs_said Unknown = None
outputs_said Foreign = None
outputs_said (GivesInputs number) = None
outputs_said (GivesOutputs number) = Some number
outputs_said (GivesKind kind) = None
outputs_said (NamesInputs names) = None
outputs_said (NamesOutputs names) = None
outputs_said (GivesRow digits) = None
outputs_said Ends = None

abbrev pub kind_said : Said → Option (Option Kind)
kind_said Spoiled = None
kind_said Silent = None
kind_said Unknown = None
kind_said Foreign = None
kind_said (GivesInputs number) = None
kind_said (GivesOutputs number) = None
kind_said (GivesKind kind) = Some kind
kind_said (NamesInputs names) = None
kind_said (NamesOutputs names) = None
kind_said (GivesRow digits) = None
kind_said Ends = None

abbrev pub input_names_said : Said → Option (List (List ℕ))
input_names_said Spoiled = None
input_names_said Silent = None
input_names_said Unknown = None
input_names_said Foreign = None
input_names_said (GivesInputs number) = None
input_names_said (GivesOutputs number) = None
input_names_said (GivesKind kind) = None
input_names_said (NamesInputs names) = Some names
input_names_said (NamesOutputs names) = None
input_names_said (GivesRow digits) = None
input_names_said Ends = None

abbrev pub output_names_said : Said → Option (List (List ℕ))
output_names_said Spoiled = None
output_names_said Silent = None
output_names_said Unknown = None
output_names_said Foreign = None
output_names_said (GivesInputs number) = None
output_names_said (GivesOutputs number) = None
output_names_said (GivesKind kind) = None
output_names_said (NamesInputs names) = None
output_names_said (NamesOutputs names) = Some names
output_names_said (GivesRow digits) = None
output_names_said Ends = None

abbrev pub row_said : Said → Option (List ℕ)
row_said Spoiled = None
row_said Silent = None
row_said Unknown = None
row_said Foreign = None
row_said (GivesInputs number) = None
row_said (GivesOutputs number) = None
row_said (GivesKind kind) = None
row_said (NamesInputs names) = None
row_said (NamesOutputs names) = None
row_said (GivesRow digits) = Some digits
row_said Ends = None

-- the first of two that is there
abbrev pub either_of : {X : Type 0} → Option X → Option X → Option X
either_of (Some x) o = Some x
either_of None o = o

-- what the first line that says such a thing says
abbrev pub first_said : {X : Type 0} → (Said → Option X) → List Said → Option X
first_said says [] = None
first_said says (s ∷ ss) = either_of (says s) (first_said says ss)

-- whether such a line stands among them
abbrev pub stands : {X : Type 0} → (Said → Option X) → List Said → Bool
stands says lines = is_some (first_said says lines)

-- the digits of the rows among them, in order
abbrev pub rows_of : List Said → List (List ℕ)
rows_of lines = filter_map row_said lines

abbrev pub has_rows : List Said → Bool
has_rows lines = nat_lt 0 (length (rows_of lines))

abbrev pub number_in : Option (Option ℕ) → ℕ
number_in (Some (Some n)) = n
number_in (Some None) = 0
number_in None = 0

-- the numbers of inputs and outputs, where they were given
abbrev pub inputs_of : List Said → ℕ
inputs_of lines = number_in (first_said inputs_said lines)

abbrev pub outputs_of : List Said → ℕ
outputs_of lines = number_in (first_said outputs_said lines)

abbrev pub are_given : List Said → Bool
are_given lines = stands inputs_said lines && stands outputs_said lines

abbrev pub kind_in : Option (Option Kind) → Kind
kind_in (Some (Some kind)) = kind
kind_in (Some None) = Fd
kind_in None = Fd

-- the type: `fd` where none was given
abbrev pub kind_of_lines : List Said → Kind
kind_of_lines lines = kind_in (first_said kind_said lines)
