-- What a call says that puts text into a buffer before a sink.
use Rattle.std.specs.Prelude.{ℕ, List, ◌∷◌, ◌++◌, OnOk, Result}
use Rattle.std.specs.declared.option.Option.{Option}
use Rattle.std.specs.List.{flat_map}
use Rattle.std.specs.Fmt.{decimal}
use Rattle.wire_io.specs.Causes.{HasCause}
use Rattle.wire_io.specs.Passing.{Passes}
use Rattle.wire_io.specs.Told.{GainsFront}
use Rattle.report_text.specs.Cells.{size_text, array_text}
use Rattle.report_text.specs.declared.write.Word.{Word}
use Rattle.report_text.specs.declared.write.Word.TheVariants.{Text, Number, Size, Rows}

-- The text passes through the buffer to the sink, or a front of what waits and of it reaches the sink, which failed.
pub record Puts {T E : Type 0} (got got' : Option (List ℕ)) (waiting waiting' : List ℕ) (faults faults' : ℕ) (result : Result T E) (text : List ℕ) : Type 0 where
  pub ok : OnOk result (Passes got got' waiting waiting' text)
  pub front : GainsFront got got' (waiting ++ text)
  pub cause : HasCause faults faults' result

abbrev pub word_text : Word → List ℕ
word_text (Text bytes) = bytes.now
word_text (Number n) = decimal n
word_text (Size s) = size_text s
word_text (Rows a) = array_text a.now

-- each piece behind a blank
abbrev pub behind_blanks : {X : Type 0} → (X → List ℕ) → List X → List ℕ
behind_blanks text xs = flat_map (λ x. 32 ∷ text x) xs
