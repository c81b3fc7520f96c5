-- The rows of an array's text.
use Rattle.std.specs.Prelude.{ℕ, ◌+◌, Bool, not, ◌||◌, ◌==◌, List, [], ◌∷◌, ◌++◌, filter}
use Rattle.std.specs.List.{before_first}
use Rattle.report_text.specs.Pieces.{pieces}

-- blanks, tabs and carriage returns count for nothing
abbrev pub is_counted : ℕ → Bool
is_counted b = not ((b == 32) || (b == 9) || (b == 13))

-- the bytes of a line that count: a comment begins at `#`
unfoldable pub counted : List ℕ → List ℕ
counted line = filter is_counted (before_first (λ b. b == 35) line)

-- a row: the number of its line, and its bytes, one for each switch
pub record Row : Type 0 where
  pub line : ℕ
  pub bytes : List ℕ

-- the row of the line of this number, unless nothing counts on it
abbrev pub row_of : ℕ → List ℕ → List Row
row_of line [] = []
row_of line (b ∷ bytes) = record { line = line; bytes = b ∷ bytes } ∷ []

-- the rows of lines, the first of which has this number
abbrev pub rows_from : ℕ → List (List ℕ) → List Row
rows_from number [] = []
rows_from number (line ∷ lines) = row_of number (counted line) ++ rows_from (number + 1) lines

-- the rows of a text, the first line of which has number 1
abbrev pub rows_in : List ℕ → List Row
rows_in text = rows_from 1 (pieces 10 text)
