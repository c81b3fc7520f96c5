-- What an array's text is: an array, or a refusal.
use Rattle.std.specs.Prelude.{◌≡◌, ◌⊎◌, ℕ, ◌<◌, Bool, not, ◌||◌, ◌==◌, nat_lt, nat_le, List, [], ◌∷◌, length, map, slice_index_or, Some, None, if◌then◌else◌}
use Rattle.std.specs.declared.option.Option.{Option}
use Rattle.std.specs.List.{list_all}
use Rattle.lattice_grid.specs.Defects.{Defects, IsArray}
use Rattle.report_text.specs.Cells.{defect_byte, rows_of}
use Rattle.defect_array.specs.Rows.{Row, rows_in}
use Rattle.defect_array.specs.declared.read.ArrayRefusal.{ArrayRefusal}
use Rattle.defect_array.specs.declared.read.ArrayRefusal.TheVariants.{Empty, Ragged, Byte, TooLarge}

-- whether a byte stands for a switch: `.` sound, `o` stuck open, `c` stuck closed
abbrev pub is_switch : ℕ → Bool
is_switch b = (b == 46) || (b == 111) || (b == 99)

-- the first fault of a table whose test passes
abbrev pub first_of : List (Bool × ArrayRefusal) → Option ArrayRefusal
first_of [] = None
first_of (entry ∷ entries) = if entry.0 then Some entry.1 else first_of entries

-- the first fault of a row, behind so many rows, the first of which has so many switches
abbrev pub row_fault : ℕ → ℕ → Row → Option ArrayRefusal
row_fault width before row =
    first_of
    ((not (length row.bytes == width), Ragged row.line) ∷ (not (list_all is_switch row.bytes), Byte row.line)
    ∷ (nat_lt 16 (length row.bytes) || nat_le 16 before, TooLarge row.line) ∷ [])

-- row k, from 0
abbrev pub row_at : List Row → ℕ → Row
row_at rows k = slice_index_or rows k (record { line = 0; bytes = [] })

-- the fault of row k, which is to be as long as the first one
abbrev pub fault_at : List Row → ℕ → Option ArrayRefusal
fault_at rows k = row_fault (length (row_at rows 0).bytes) k (row_at rows k)

-- The first row that has a fault has this one.
pub record IsFirstFault (rows : List Row) (refusal : ArrayRefusal) : Type 0 where
  pub row : ℕ
  pub within : row < length rows
  pub before : (k : ℕ) → k < row → fault_at rows k ≡ None
  pub here : fault_at rows row ≡ Some refusal

-- These rows are the array's, a byte for each switch.
pub record AreRowsOf (rows : List Row) (a : Defects) : Type 0 where
  pub array : IsArray a
  pub bytes : map (λ (r : Row). r.bytes) rows ≡ map (map defect_byte) (rows_of a.size.cols a.size.rows a.cells)

-- the text is read as the array
abbrev pub Reads : List ℕ → Defects → Type 0
Reads text a = AreRowsOf (rows_in text) a

-- the text is refused so: it has no row, or this is the first fault of its rows
abbrev pub Refused : List ℕ → ArrayRefusal → Type 0
Refused text refusal = ((rows_in text ≡ []) × (refusal ≡ Empty)) ⊎ IsFirstFault (rows_in text) refusal

-- A text is read in one way at most, and refused in one way at most.
abbrev pub IsReadOneWay : Type 0
IsReadOneWay = (text : List ℕ) (a b : Defects) → Reads text a → Reads text b → a ≡ b

abbrev pub IsRefusedOneWay : Type 0
IsRefusedOneWay = (text : List ℕ) (r s : ArrayRefusal) → Refused text r → Refused text s → r ≡ s

-- Each text is read or refused, and never both.
abbrev pub IsReadOrRefused : Type 0
IsReadOrRefused = (text : List ℕ) → ((a : Defects) × Reads text a) ⊎ ((r : ArrayRefusal) × Refused text r)

abbrev pub IsNeverBoth : Type 0
IsNeverBoth = (text : List ℕ) (a : Defects) (r : ArrayRefusal) → Reads text a → Refused text r → ⊥
