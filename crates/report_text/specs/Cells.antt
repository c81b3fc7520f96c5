-- Values as words.
use Rattle.std.specs.Prelude.{ℕ, suc, zero, ◌+◌, List, [], ◌∷◌, ◌++◌, take, drop, map, codes}
use Rattle.std.specs.List.{join_with_byte}
use Rattle.std.specs.Fmt.{decimal}
use Rattle.lattice_grid.specs.declared.array.Defect.{Defect}
use Rattle.lattice_grid.specs.declared.array.Defect.TheVariants.{Sound, StuckOpen, StuckClosed}
use Rattle.lattice_grid.specs.declared.control.Control.{Control}
use Rattle.lattice_grid.specs.declared.control.Control.TheVariants.{Zero, One, Plain, Bar}
use Rattle.lattice_grid.specs.Defects.{Defects}
use Rattle.lattice_grid.specs.Rectangle.{Size}
use Rattle.report_text.specs.declared.answer.Proof.{Proof}

-- `0`, `1`, `xI` for input I, `xI'` for its complement
abbrev pub control_text : Control → List ℕ
control_text Zero = codes "0"
control_text One = codes "1"
control_text (Plain i) = 120 ∷ (48 + i) ∷ []
control_text (Bar i) = 120 ∷ (48 + i) ∷ 39 ∷ []

-- the numbers of rows and columns, joined by the letter x
abbrev pub size_text : Size → List ℕ
size_text s = decimal s.rows ++ (codes "x" ++ decimal s.cols)

-- the first so many rows of so many cells
abbrev pub rows_of : {X : Type 0} → ℕ → ℕ → List X → List (List X)
rows_of cols zero cells = []
rows_of cols (suc many) cells = take cols cells ∷ rows_of cols many (drop cols cells)

-- `.` sound, `o` stuck open, `c` stuck closed
abbrev pub defect_byte : Defect → ℕ
defect_byte Sound = 46
defect_byte StuckOpen = 111
defect_byte StuckClosed = 99

-- the rows of an array, joined by `/`
abbrev pub array_text : Defects → List ℕ
array_text a = join_with_byte 47 (map (map defect_byte) (rows_of a.size.cols a.size.rows a.cells))

-- the size that was refuted and the number of steps, joined by a colon
abbrev pub proof_text : Proof → List ℕ
proof_text p = size_text p.shape ++ (codes ":" ++ decimal p.steps)
