-- What reading a plain text gives.
use Rattle.std.specs.Prelude.{◌≡◌, ℕ, List}
use Rattle.pla_reader.specs.Plain.{Plain, Spells}
use Rattle.pla_reader.specs.Meaning.{functions_of}
use Rattle.pla_reader.specs.Names.{default_names}
use Rattle.pla_reader.specs.Parts.{Parts}

-- The text begins with the spelling of a plain text, and these parts are its meaning and the place after it.
pub record ReadsPlain (bytes : List ℕ) (parts : Parts) : Type 0 where
  pub plain : Plain
  pub spelled : Spells bytes plain parts.rest
  pub inputs : parts.inputs ≡ plain.inputs
  pub outputs : parts.outputs ≡ plain.outputs
  pub input_names : parts.input_names ≡ default_names 120 plain.inputs
  pub output_names : parts.output_names ≡ default_names 102 plain.outputs
  pub functions : parts.functions ≡ functions_of plain
