-- What is kept of the lines so far, and that it is what they give.
use Rattle.std.specs.Prelude.{◌≡◌, ℕ, ◌≤◌, List, [], ◌∷◌, ◌++◌, length, Result, Ok, Err, map, Option, Some, None, IfSome, MatchOption, unwrap_or}
use Rattle.std.specs.Option.{option_map}
use Rattle.pla_reader.specs.declared.kind.Kind.{Kind}
use Rattle.pla_reader.specs.declared.kind.Kind.TheVariants.{Fd}
use Rattle.pla_reader.specs.declared.given.Given.{Given}
use Rattle.pla_reader.specs.declared.marked.Marked.{Marked}
use Rattle.pla_reader.specs.Names.{bytes_of}
use Rattle.pla_reader.specs.Says.{Said}
use Rattle.pla_reader.specs.Given.{inputs_said, outputs_said, kind_said, input_names_said, output_names_said, first_said, rows_of}
use Rattle.pla_reader.specs.Marking.{AreSets}
use Rattle.pla_reader.specs.declared.fault.Stop.{Stop}
use Rattle.pla_reader.specs.Judging.{Stops}
use Rattle.pla_reader.specs.Faults.{fault_after}

pub record State : Type 0 where
  pub inputs : Option ℕ
  pub outputs : Option ℕ
  pub kind : Option Kind
  pub input_names : Option (List (List ℕ))
  pub output_names : Option (List (List ℕ))
  pub rows : ℕ
  pub sets : List Marked

abbrev pub state_of : Given → State
state_of given = record {
  inputs = given.inputs;
  outputs = given.outputs;
  kind = given.kind;
  input_names = option_map (λ names. map bytes_of names.keys) given.input_names;
  output_names = option_map (λ names. map bytes_of names.keys) given.output_names;
  rows = given.rows;
  sets = given.sets.items;
}

-- The numbers are within their limits, names are as many as they are to be, and each output has its sets.
pub record IsState (s : State) : Type 0 where
  pub inputs : IfSome s.inputs (λ n. (1 ≤ n) × (n ≤ 10))
  pub outputs : IfSome s.outputs (λ m. (1 ≤ m) × (m ≤ 64))
  pub input_names : IfSome s.input_names (λ names. s.inputs ≡ Some (length names))
  pub output_names : IfSome s.output_names (λ names. s.outputs ≡ Some (length names))
  pub rows : s.rows ≤ 65536
  pub sets : IfSome s.outputs (λ m. length s.sets ≡ m)

-- It is what these lines give.
pub record Keeps (before : List Said) (s : State) : Type 0 where
  pub inputs : first_said inputs_said before ≡ option_map Some s.inputs
  pub outputs : first_said outputs_said before ≡ option_map Some s.outputs
  pub kind : first_said kind_said before ≡ option_map Some s.kind
  pub input_names : first_said input_names_said before ≡ s.input_names
  pub output_names : first_said output_names_said before ≡ s.output_names
  pub rows : length (rows_of before) ≡ s.rows
  pub sets : MatchOption s.outputs (rows_of before ≡ []) (λ m. AreSets (unwrap_or s.kind Fd) (unwrap_or s.inputs 0) m (rows_of before) s.sets)

-- One more line is taken if it has no fault; or its fault is answered, unless there was no memory.
abbrev pub Takes : {X : Type 0} → Said → State → State → Result X Stop → Type 0
Takes line old new (Ok x) = IsState new × ((before : List Said) → Keeps before old → (fault_after before line ≡ None) × Keeps (before ++ line ∷ []) new)
Takes line old new (Err stop) = (before : List Said) → Keeps before old → Stops stop (fault_after before line)
