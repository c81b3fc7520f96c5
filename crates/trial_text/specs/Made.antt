-- The PLA text that a number makes.
use Rattle.std.specs.Prelude.{ℕ, zero, suc, List, [], ◌∷◌, ◌++◌, ◌%◌, map, codes}
use Rattle.rand_core.specs.Stream.{Stream, next_u32}
use Rattle.rand_core.specs.Steps.{stream_of, steps_u32}
use Rattle.rand_pcg.specs.Lcg.{started, increment_of}
use Rattle.rand_pcg.specs.Pcg.{multiplier_64, pcg32}
use Rattle.trial_text.specs.declared.plane.Plane.{Plane}
use Rattle.trial_text.specs.declared.plane.Plane.TheVariants.{Inputs, Outputs}

-- the next n words of a generator
unfoldable pub drawn : ℕ → Stream → List ℕ
drawn zero s = []
drawn (suc n) s = (next_u32 s).0 ∷ drawn n (next_u32 s).1

-- what is left of a generator after n words
unfoldable pub left_after : ℕ → Stream → Stream
left_after zero s = s
left_after (suc n) s = left_after n (next_u32 s).1

-- the digit of a remainder: of three for an input, `0`, `1`, `-`; of four for an output, `1`, `-`, `0`, `0`
abbrev pub input_digit : ℕ → ℕ
input_digit zero = 48
input_digit (suc zero) = 49
input_digit (suc (suc n)) = 45

abbrev pub output_digit : ℕ → ℕ
output_digit zero = 49
output_digit (suc zero) = 45
output_digit (suc (suc n)) = 48

-- how many digits of a row a plane has
abbrev pub width_of : Plane → ℕ
width_of Inputs = 6
width_of Outputs = 16

-- the digit that a word gives
abbrev pub digit_of : Plane → ℕ → ℕ
digit_of Inputs word = input_digit (word % 3)
digit_of Outputs word = output_digit (word % 4)

-- the digits of one plane of a row: one for each word
abbrev pub digits_of : Plane → Stream → List ℕ
digits_of plane s = map (digit_of plane) (drawn (width_of plane) s)

-- a row: the digits of the inputs, a blank, those of the outputs
abbrev pub row_of : Stream → List ℕ
row_of s = digits_of Inputs s ++ (codes " " ++ (digits_of Outputs (left_after 6 s) ++ codes "\n"))

-- n rows, one after another, each of 22 words
unfoldable pub rows_of : ℕ → Stream → List ℕ
rows_of zero s = []
rows_of (suc n) s = row_of s ++ rows_of n (left_after 22 s)

-- the text: six inputs, sixteen outputs, 24 rows
abbrev pub text_of : Stream → List ℕ
text_of s = codes ".i 6\n.o 16\n" ++ (rows_of 24 s ++ codes ".e\n")

-- the words of the generator that a number starts, on stream 1
abbrev pub words_of : ℕ → Stream
words_of number = stream_of (steps_u32 pcg32) (started 64 multiplier_64 number (increment_of 64 1))

-- the text that a number makes
unfoldable pub made : ℕ → List ℕ
made number = text_of (words_of number)
