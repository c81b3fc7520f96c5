-- What a made text is as a PLA.
use Rattle.std.specs.Prelude.{ℕ, zero, suc, List, [], ◌∷◌, length}
use Rattle.rand_core.specs.Stream.{Stream}
use Rattle.pla_reader.specs.Meaning.{functions_of}
use Rattle.pla_reader.specs.Names.{default_names}
use Rattle.pla_reader.specs.Parts.{Parts}
use Rattle.pla_reader.specs.Plain.{Plain, RowText}
use Rattle.pla_reader.specs.Reading.{Reads}
use Rattle.trial_text.specs.Made.{digits_of, left_after, made, words_of}
use Rattle.trial_text.specs.declared.plane.Plane.TheVariants.{Inputs, Outputs}

-- n rows, drawn one after another
unfoldable pub rows_drawn : ℕ → Stream → List RowText
rows_drawn zero s = []
rows_drawn (suc n) s = record { digits = digits_of Inputs s; marks = digits_of Outputs (left_after 6 s) } ∷ rows_drawn n (left_after 22 s)

-- the plain text that a number makes
abbrev pub plain_of : ℕ → Plain
plain_of number = record { inputs = 6; outputs = 16; rows = rows_drawn 24 (words_of number) }

-- what it is read as: six inputs and sixteen outputs with their default names, and the functions that its rows mean
abbrev pub parts_made : ℕ → Parts
parts_made number = record {
  inputs = 6;
  outputs = 16;
  input_names = default_names 120 6;
  output_names = default_names 102 16;
  functions = functions_of (plain_of number);
  rest = length (made number);
}

-- The text that a number makes is never refused: it is read as these parts.
abbrev pub IsMadeRead : Type 0
IsMadeRead = (number : ℕ) → Reads (made number) (parts_made number)
