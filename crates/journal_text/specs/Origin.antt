-- Where the section begins that a journal ends with.
use Rattle.std.specs.Prelude.{ℕ, ◌==◌, Bool, true, false, cond, ◌&&◌, List, [], ◌∷◌, ◌++◌, codes, None, Some}
use Rattle.std.specs.declared.option.Option.{Option}

-- the whole lines, each with its line feed, where this stands before the bytes on the first of them
abbrev pub lines_after : List ℕ → List ℕ → List (List ℕ)
lines_after line [] = []
lines_after line (b ∷ bytes) = cond (b == 10) ((line ++ b ∷ []) ∷ lines_after [] bytes) (lines_after (line ++ b ∷ []) bytes)

-- the whole lines
abbrev pub whole_lines : List ℕ → List (List ℕ)
whole_lines bytes = lines_after [] bytes

abbrev pub begins_with : List ℕ → List ℕ → Bool
begins_with [] line = true
begins_with (b ∷ front) [] = false
begins_with (b ∷ front) (c ∷ line) = c == b && begins_with front line

-- a line and what counts of those behind it; where nothing of those counts, the line alone if it begins with `question`
abbrev pub behind : List ℕ → List ℕ → List ℕ
behind line [] = cond (begins_with (codes "question") line) line []
behind line (b ∷ later) = line ++ b ∷ later

-- of lines, those up to the last one that begins with `question`, one after another
abbrev pub up_to_question : List (List ℕ) → List ℕ
up_to_question [] = []
up_to_question (line ∷ lines) = behind line (up_to_question lines)

-- what a sink got up to the end of the last whole line that begins with `question`; nothing where it does not tell
unfoldable pub origin_of : Option (List ℕ) → List ℕ
origin_of None = []
origin_of (Some bytes) = up_to_question (whole_lines bytes)
