-- What a line says, whatever stands before it.
use Rattle.std.specs.Prelude.{ℕ, Bool, ◌&&◌, List, [], ◌∷◌, length, codes, slice_index, nat_le, ◌==◌, if◌then◌else◌, Option, Some, None}
use Rattle.std.specs.List.{list_any, list_all}
use Rattle.std.specs.Str.{bytes_eq}
use Rattle.std.specs.Str.Parse.{digits_value}
use Rattle.pla_reader.specs.declared.kind.Kind.{Kind}
use Rattle.pla_reader.specs.declared.kind.Kind.TheVariants.{F, Fd, Fr, Fdr}
use Rattle.pla_reader.specs.Lines.{Line, visible, is_clean, words_of, digits_of}

pub data Said : Type 0 where
  -- it has a byte that no line may have
  Spoiled : Said
  -- nothing that is looked at: no word, or `.p`
  Silent : Said
  -- a word that no PLA has
  Unknown : Said
  -- a word of PLAs of other kinds
  Foreign : Said
  -- `.i` and `.o`, with a number if it is one
  GivesInputs : (number : Option ℕ) → Said
  GivesOutputs : (number : Option ℕ) → Said
  -- `.type`, with a type if it is one
  GivesKind : (kind : Option Kind) → Said
  -- `.ilb` and `.ob`, with the words that follow
  NamesInputs : (names : List (List ℕ)) → Said
  NamesOutputs : (names : List (List ℕ)) → Said
  -- a row, with its digits
  GivesRow : (digits : List ℕ) → Said
  -- `.e` or `.end`
  Ends : Said

abbrev pub is_decimal : ℕ → Bool
is_decimal b = nat_le 48 b && nat_le b 57

-- the word of a line that has one word alone
abbrev pub only_of : List (List ℕ) → Option (List ℕ)
only_of [] = None
only_of (word ∷ []) = Some word
only_of (word ∷ next ∷ words) = None

-- the number that at most nine decimal digits write
abbrev pub number_written : Option (List ℕ) → Option ℕ
number_written None = None
number_written (Some word) = if nat_le (length word) 9 && list_all is_decimal word then Some (digits_value 10 word) else None

-- the number that the only word writes
abbrev pub number_of : List (List ℕ) → Option ℕ
number_of words = number_written (only_of words)

-- the type that a word names
abbrev pub kind_named : Option (List ℕ) → Option Kind
kind_named None = None
kind_named (Some word) =
    if bytes_eq word (codes "f") then Some F else if bytes_eq word (codes "fd") then Some Fd else if bytes_eq word (codes "fr") then Some Fr
    else if bytes_eq word (codes "fdr") then Some Fdr else None

-- the type that the only word names
abbrev pub kind_of : List (List ℕ) → Option Kind
kind_of words = kind_named (only_of words)

-- a word of PLAs with many-valued inputs, phases, pairs, symbols or states
unfoldable pub is_foreign : List ℕ → Bool
is_foreign word =
    list_any (bytes_eq word)
    (codes ".mv" ∷ codes ".phase" ∷ codes ".pair" ∷ codes ".symbolic" ∷ codes ".symbolic-output" ∷ codes ".kiss" ∷ codes ".label" ∷ [])

-- what a word line says: its first word, and the others
unfoldable pub said_by_word : List ℕ → List (List ℕ) → Said
said_by_word word others =
    if bytes_eq word (codes ".i") then GivesInputs (number_of others) else if bytes_eq word (codes ".o") then GivesOutputs (number_of others)
    else if bytes_eq word (codes ".type") then GivesKind (kind_of others) else if bytes_eq word (codes ".ilb") then NamesInputs others
    else if bytes_eq word (codes ".ob") then NamesOutputs others else if bytes_eq word (codes ".p") then Silent
    else if bytes_eq word (codes ".e") then Ends else if bytes_eq word (codes ".end") then Ends
    else if is_foreign word then Foreign else Unknown

-- A line whose first word begins with `.` is a word line; every other line with a word is a row.
abbrev pub said_by_words : List ℕ → List (List ℕ) → Said
said_by_words text [] = Silent
said_by_words text (word ∷ others) = if slice_index word 0 == 46 then said_by_word word others else GivesRow (digits_of text)

abbrev pub said_by_text : List ℕ → Said
said_by_text text = if is_clean text then said_by_words text (words_of text) else Spoiled

-- what a line says
abbrev pub said_by : Line → Said
said_by line = said_by_text (visible line)
