-- Plain PLA texts, as the one spelling of what they hold.
use Rattle.std.specs.Prelude.{◌≡◌, ℕ, ◌≤◌, ◌⊎◌, List, [], ◌∷◌, ◌++◌, length, All, codes, drop}
use Rattle.std.specs.List.{flat_map}
use Rattle.std.specs.Fmt.{decimal}

-- a row: a digit for each input, and a digit for each output
pub record RowText : Type 0 where
  pub digits : List ℕ
  pub marks : List ℕ

-- `0`, `1` or `-`
abbrev pub IsDigit : ℕ → Type 0
IsDigit b = (b ≡ 48) ⊎ (b ≡ 49) ⊎ (b ≡ 45)

pub record IsRow (inputs outputs : ℕ) (row : RowText) : Type 0 where
  pub digits : length row.digits ≡ inputs
  pub marks : length row.marks ≡ outputs
  pub all_digits : All IsDigit row.digits
  pub all_marks : All IsDigit row.marks

pub record Plain : Type 0 where
  pub inputs : ℕ
  pub outputs : ℕ
  pub rows : List RowText

pub record IsPlain (plain : Plain) : Type 0 where
  pub some_inputs : 1 ≤ plain.inputs
  pub few_inputs : plain.inputs ≤ 10
  pub some_outputs : 1 ≤ plain.outputs
  pub few_outputs : plain.outputs ≤ 64
  pub few_rows : length plain.rows ≤ 65536
  pub rows : All (IsRow plain.inputs plain.outputs) plain.rows

-- the digits, a blank, the marks, and a line feed
abbrev pub row_text : RowText → List ℕ
row_text row = row.digits ++ 32 ∷ row.marks ++ 10 ∷ []

-- a word with a number behind it, and a line feed
abbrev pub number_line : List ℕ → ℕ → List ℕ
number_line word n = word ++ decimal n ++ 10 ∷ []

abbrev pub rows_text : List RowText → List ℕ
rows_text rows = flat_map row_text rows

-- the text up to the line that ends it
abbrev pub spelling : Plain → List ℕ
spelling plain =
    number_line (codes ".i ") plain.inputs ++ (number_line (codes ".o ") plain.outputs ++ (rows_text plain.rows ++ codes ".e\n"))

-- The text begins with the spelling of a plain text, and the rest begins at this place.
pub record Spells (bytes : List ℕ) (plain : Plain) (rest : ℕ) : Type 0 where
  pub is_plain : IsPlain plain
  pub text : bytes ≡ spelling plain ++ drop rest bytes
  pub within : rest ≤ length bytes
