-- When the lattices of a report realise the outputs of a PLA, and which block is the first that fails.
use Rattle.std.specs.Prelude.{◌≡◌, ◌≢◌, ℕ, suc, ◌+◌, ◌<◌, ◌≤◌, ◌⊎◌, List, [], ◌∷◌, ◌++◌, length, slice_get, Some, None, IfSome}
use Rattle.std.specs.List.{sum_by}
use Rattle.std.specs.declared.option.Option.{Option}
use Rattle.cube_core.specs.Function.{Function}
use Rattle.lattice_grid.specs.Defects.{Defects}
use Rattle.lattice_grid.specs.Lattice.{Lattice}
use Rattle.lattice_grid.specs.Rails.{IsOverRails}
use Rattle.path_meaning.specs.Defective.{RealisesIn}
use Rattle.path_meaning.specs.Failing.{IsLeastFailureIn}
use Rattle.pla_reader.specs.Parts.{Parts}
use Rattle.report_text.specs.declared.answer.Answer.{Answer}
use Rattle.report_text.specs.declared.answer.Answer.TheVariants.{Found, Minimum, Undecided, Mapped, NoneMapped, MapUndecided, NoRails}
use Rattle.report_text.specs.declared.answer.Version.{Version}
use Rattle.report_text.specs.declared.answer.Version.TheVariants.{One, Two}
use Rattle.report_text.specs.Form.{lattice_of}
use Rattle.report_text.specs.Report.{BlockParts, ReportParts, lines_in}
use Rattle.four_lattice.specs.declared.verify.VerifyRefusal.{VerifyRefusal}
use Rattle.four_lattice.specs.declared.verify.VerifyRefusal.TheVariants.{Inputs, Output, Literal, Wrong, NoMemory}

-- the PLA that blocks are tested against, and the version and the rails of their text
pub record Basis : Type 0 where
  pub parts : Parts
  pub version : Version
  pub rails : ℕ

abbrev pub basis_of : Parts → ReportParts → Basis
basis_of parts report = record { parts = parts; version = report.version; rails = report.rails }

-- the array that the lattice of an answer stands on, where there is one
abbrev pub array_in : Answer → Option Defects
array_in (Found g) = None
array_in (Minimum g) = None
array_in (Undecided g least at after) = None
array_in (Mapped g a) = Some a
array_in (NoneMapped a) = None
array_in (MapUndecided a after) = None
array_in (NoRails on off) = None

-- the least number that a block's output may have: one more than that of the block before
abbrev pub least_output : List BlockParts → ℕ
least_output [] = 0
least_output (block ∷ []) = suc block.output
least_output (block ∷ next ∷ blocks) = least_output (next ∷ blocks)

-- The block is that of an output of the PLA that is not below this one, with its name; and this is its function.
pub record IsOf (parts : Parts) (least : ℕ) (block : BlockParts) (f : Function) : Type 0 where
  pub later : least ≤ block.output
  pub name : slice_get parts.output_names block.output ≡ Some block.name
  pub function : slice_get parts.functions block.output ≡ Some f

-- The block is that of an output, and its lattice, where it has one, is of literals that may stand and realises the output, on the
-- block's array where that has one.
pub record IsRight (basis : Basis) (least : ℕ) (block : BlockParts) : Type 0 where
  pub function : Function
  pub of_output : IsOf basis.parts least block function
  pub over : IfSome (lattice_of block.answer) (IsOverRails basis.parts.inputs basis.rails)
  pub realises : IfSome (lattice_of block.answer) (λ g. RealisesIn g function (array_in block.answer))

-- Each of the first so many blocks is right, and comes after the block before it.
abbrev pub AreRight : Basis → List BlockParts → ℕ → Type 0
AreRight basis blocks many =
    (before : List BlockParts) (block : BlockParts) (rest : List BlockParts) → blocks ≡ before ++ block ∷ rest → length before < many
    → IsRight basis (least_output before) block

-- the number of the line on which the first block begins
abbrev pub first_line : Version → ℕ
first_line One = 3
first_line Two = 4

-- the number of the line on which the block after these begins
abbrev pub line_after : Version → List BlockParts → ℕ
line_after version before = sum_by (λ block. lines_in version block) before + first_line version

-- The block has this lattice, and is that of an output with this function.
pub record Shows (basis : Basis) (least : ℕ) (block : BlockParts) (g : Lattice) (f : Function) : Type 0 where
  pub lattice : lattice_of block.answer ≡ Some g
  pub of_output : IsOf basis.parts least block f

-- Why the lattice of an answer, of a block that begins at a line, is not right for a function.
abbrev pub IsLatticeRefused : ℕ → ℕ → ℕ → Answer → Function → VerifyRefusal → Type 0
IsLatticeRefused n rails begins answer f (Inputs line) = ⊥
IsLatticeRefused n rails begins answer f (Output line) = ⊥
IsLatticeRefused n rails begins answer f (Literal line) = (line ≡ begins) × (g : Lattice) × (lattice_of answer ≡ Some g) × (IsOverRails n rails g → ⊥)
IsLatticeRefused n rails begins answer f (Wrong line x) =
    (line ≡ begins) × (g : Lattice) × (lattice_of answer ≡ Some g) × IsOverRails n rails g × IsLeastFailureIn g (array_in answer) f x
IsLatticeRefused n rails begins answer f NoMemory = ⊥

-- Why the block that begins at a line is not right: it is of no output, or of none that may stand here; its lattice has a literal
-- that may not stand; or it does not realise the output, first at this assignment.
abbrev pub IsBlockRefused : Basis → ℕ → ℕ → BlockParts → VerifyRefusal → Type 0
IsBlockRefused basis least begins block (Inputs line) = ⊥
IsBlockRefused basis least begins block (Output line) = (line ≡ begins) × ((f : Function) → IsOf basis.parts least block f → ⊥)
IsBlockRefused basis least begins block (Literal line) =
    (line ≡ begins) × (g : Lattice) × (f : Function) × Shows basis least block g f × (IsOverRails basis.parts.inputs basis.rails g → ⊥)
IsBlockRefused basis least begins block (Wrong line x) =
    (line ≡ begins)
    × (g : Lattice) × (f : Function) × Shows basis least block g f × IsOverRails basis.parts.inputs basis.rails g × IsLeastFailureIn g (array_in block.answer) f x
IsBlockRefused basis least begins block NoMemory = ⊥

-- A block is refused, the first that is not right.
pub record HasRefusedBlock (basis : Basis) (blocks : List BlockParts) (refusal : VerifyRefusal) : Type 0 where
  pub before : List BlockParts
  pub block : BlockParts
  pub rest : List BlockParts
  pub whole : blocks ≡ before ++ block ∷ rest
  pub earlier : AreRight basis blocks (length before)
  pub refused : IsBlockRefused basis (least_output before) (line_after basis.version before) block refusal

-- The names are the PLA's, and each block is right.
pub record IsVerified (parts : Parts) (report : ReportParts) : Type 0 where
  pub names : report.input_names ≡ parts.input_names
  pub blocks : AreRight (basis_of parts report) report.blocks (length report.blocks)

-- The report is refused so: its names, on its second line, are not the PLA's; or they are, and a block is refused.
abbrev pub IsDenied : Parts → ReportParts → VerifyRefusal → Type 0
IsDenied parts report refusal =
    ((report.input_names ≢ parts.input_names) × (refusal ≡ Inputs 2))
    ⊎ ((report.input_names ≡ parts.input_names) × HasRefusedBlock (basis_of parts report) report.blocks refusal)
