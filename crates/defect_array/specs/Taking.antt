-- For the crate's own proofs: rows that were taken.
use Rattle.std.specs.Prelude.{◌≡◌, ◌≢◌, ℕ, ◌<◌, ◌==◌, List, [], length, map, None, if◌then◌else◌}
use Rattle.std.specs.List.{flat_map}
use Rattle.lattice_grid.specs.declared.array.Defect.{Defect}
use Rattle.lattice_grid.specs.declared.array.Defect.TheVariants.{Sound, StuckOpen, StuckClosed}
use Rattle.defect_array.specs.Reading.{row_at, fault_at}
use Rattle.defect_array.specs.Rows.{Row}

-- the defect that a byte stands for, where it stands for a switch
abbrev pub defect_of : ℕ → Defect
defect_of b = if b == 46 then Sound else if b == 111 then StuckOpen else StuckClosed

-- the switches of a row, and of rows one after another
abbrev pub switches_of : Row → List Defect
switches_of row = map defect_of row.bytes

-- Of rows without fault are kept how many they are, how long the first one is, and their switches.
pub record HasTaken (rows : List Row) (width many : ℕ) (cells : List Defect) : Type 0 where
  pub many_are : many ≡ length rows
  pub width_is : 0 < many → width ≡ length (row_at rows 0).bytes
  pub cells_are : cells ≡ flat_map switches_of rows
  pub sound : (k : ℕ) → k < length rows → fault_at rows k ≡ None

-- a row has some byte
abbrev pub IsSome : Row → Type 0
IsSome row = row.bytes ≢ []
