-- Lines and words.
use Rattle.std.specs.Prelude.{ℕ, ◌+◌, ◌==◌, ◌≡◌, ◌<◌, ◌≤◌, Bool, true, false, not, ◌&&◌, ◌||◌, List, [], ◌∷◌, length, slice_index}
use Rattle.std.specs.List.{slice_split, filter}

-- what stands between line feeds
abbrev pub lines_of : List ℕ → List (List ℕ)
lines_of text = slice_split (λ b. b == 10) text

-- blanks, tabs, carriage returns and line feeds separate words
abbrev pub is_blank : ℕ → Bool
is_blank b = b == 32 || b == 9 || b == 13 || b == 10

abbrev pub is_some_bytes : List ℕ → Bool
is_some_bytes [] = false
is_some_bytes (b ∷ bytes) = true

-- what stands between them, and is not empty
abbrev pub words_of : List ℕ → List (List ℕ)
words_of text = filter is_some_bytes (slice_split is_blank text)

-- a line with its number
pub record Row : Type 0 where
  pub number : ℕ
  pub bytes : List ℕ

-- lines with numbers that count up
abbrev pub rows_from : ℕ → List (List ℕ) → List Row
rows_from n [] = []
rows_from n (line ∷ lines) = record { number = n; bytes = line } ∷ rows_from (n + 1) lines

-- a line that begins with c is a comment
abbrev pub is_comment : List ℕ → Bool
is_comment line = slice_index line 0 == 99

abbrev pub has_words : List (List ℕ) → Bool
has_words [] = false
has_words (word ∷ words) = true

-- a line that is no comment and has a word
abbrev pub is_telling : Row → Bool
is_telling row = not (is_comment row.bytes) && has_words (words_of row.bytes)

-- the lines of a text that are no comments and have words, with their numbers from this one on
abbrev pub rows_in : ℕ → List ℕ → List Row
rows_in n text = filter is_telling (rows_from n (lines_of text))

-- the number of the last line: there is one more than there are line feeds
abbrev pub last_line : List ℕ → ℕ
last_line text = length (lines_of text)

-- so many bytes stand before the first one that passes the test
pub record IsFront (test : ℕ → Bool) (text : List ℕ) (n : ℕ) : Type 0 where
  pub within : n ≤ length text
  pub before : (k : ℕ) → k < n → test (slice_index text k) ≡ false
  pub found : n < length text → test (slice_index text n) ≡ true
