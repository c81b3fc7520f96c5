-- The lines of a text, and what stands on a line.
use Rattle.std.specs.Prelude.{ℕ, ◌+◌, ◌-◌, Bool, true, false, not, ◌&&◌, ◌||◌, List, [], ◌∷◌, length, take, filter, slice_index, nat_lt, nat_le, ◌==◌, if◌then◌else◌}
use Rattle.std.specs.List.{slice_split, before_first, list_all}

-- a line: its bytes up to the line feed that ends it, if there is one
pub record Line : Type 0 where
  pub text : List ℕ
  pub ended : Bool

-- each part but the last is ended by a line feed
abbrev pub lines_of_parts : List (List ℕ) → List Line
lines_of_parts [] = []
lines_of_parts (part ∷ []) = record { text = part; ended = false } ∷ []
lines_of_parts (part ∷ next ∷ parts) = record { text = part; ended = true } ∷ lines_of_parts (next ∷ parts)

-- the lines of a text: what stands between its line feeds, so one more than it has line feeds
unfoldable pub lines_of : List ℕ → List Line
lines_of bytes = lines_of_parts (slice_split (λ b. b == 10) bytes)

-- how many bytes of the text a line takes, with its line feed
abbrev pub line_length : Line → ℕ
line_length line = length line.text + (if line.ended then 1 else 0)

-- the text without a carriage return at its end
abbrev pub without_return : List ℕ → List ℕ
without_return text = if slice_index text (length text - 1) == 13 then take (length text - 1) text else text

-- a carriage return just before the line feed is skipped
abbrev pub body : Line → List ℕ
body line = if line.ended then without_return line.text else line.text

-- what is read of a line: a comment begins at `#`
unfoldable pub visible : Line → List ℕ
visible line = before_first (λ b. b == 35) (body line)

-- a tab, or a byte from the blank to `~`
abbrev pub is_printed : ℕ → Bool
is_printed b = (b == 9) || (nat_le 32 b && nat_le b 126)

abbrev pub is_clean : List ℕ → Bool
is_clean text = list_all is_printed text

-- a blank or a tab
abbrev pub is_gap : ℕ → Bool
is_gap b = (b == 32) || (b == 9)

abbrev pub is_some_word : List ℕ → Bool
is_some_word word = nat_lt 0 (length word)

-- the words, which blanks and tabs part
unfoldable pub words_of : List ℕ → List (List ℕ)
words_of text = filter is_some_word (slice_split is_gap text)

-- the digits of a row: blanks, tabs and `|` are removed
abbrev pub is_place : ℕ → Bool
is_place b = not (is_gap b || (b == 124))

abbrev pub digits_of : List ℕ → List ℕ
digits_of text = filter is_place text
