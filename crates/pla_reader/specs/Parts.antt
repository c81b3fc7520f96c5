-- What reading a text gives.
use Rattle.std.specs.Prelude.{◌≡◌, ℕ, ◌≤◌, List, length, map, All}
use Rattle.cube_core.specs.Function.{Function, IsFunction}
use Rattle.pla_reader.specs.declared.pla.Pla.{Pla}
use Rattle.pla_reader.specs.Names.{bytes_of}

-- a PLA without where it lies in memory
pub record Parts : Type 0 where
  pub inputs : ℕ
  pub outputs : ℕ
  pub input_names : List (List ℕ)
  pub output_names : List (List ℕ)
  pub functions : List Function
  pub rest : ℕ

abbrev pub parts_of : Pla → Parts
parts_of pla = record {
  inputs = pla.inputs;
  outputs = pla.outputs;
  input_names = map bytes_of pla.input_names.keys;
  output_names = map bytes_of pla.output_names.keys;
  functions = pla.specs.items;
  rest = pla.rest;
}

-- There is a name for each input, and a name and a function of these inputs for each output, on and off at no assignment both.
pub record IsPla (parts : Parts) : Type 0 where
  pub some_inputs : 1 ≤ parts.inputs
  pub few_inputs : parts.inputs ≤ 10
  pub some_outputs : 1 ≤ parts.outputs
  pub few_outputs : parts.outputs ≤ 64
  pub input_names : length parts.input_names ≡ parts.inputs
  pub output_names : length parts.output_names ≡ parts.outputs
  pub functions : length parts.functions ≡ parts.outputs
  pub each : All (λ f. f.inputs ≡ parts.inputs) parts.functions
  pub kept : All IsFunction parts.functions
