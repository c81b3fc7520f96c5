-- For the crate's own proofs: sections that are sought among parts.
use Rattle.std.specs.Prelude.{◌≡◌, ◌↔◌, ℕ, ◌<◌, ◌≤◌, List, All, length, slice_get, slice_index_or, [], Some, None, ⊤}
use Rattle.cube_core.specs.Function.{Function}
use Rattle.lattice_grid.specs.Defects.{Defects}
use Rattle.lattice_grid.specs.Rectangle.{Size}
use Rattle.pla_reader.specs.Parts.{Parts}
use Rattle.report_text.specs.Report.{BlockParts}
use Rattle.report_text.specs.declared.answer.Answer.{Answer}
use Rattle.report_text.specs.declared.answer.Answer.TheVariants as answers
use Rattle.report_text.specs.declared.answer.Proof.{Proof}
use Rattle.report_text.specs.declared.answer.Version.{Version}
use Rattle.report_text.specs.declared.answer.Version.TheVariants.{One, Two}
use Rattle.shape_list.specs.Shapes.{IsHeld}
use Rattle.journal_text.specs.Good.{Lists, ListsFirst}
use Rattle.journal_text.specs.Parts.{Section, Part, Question, Answered, size_of, array_of}
use Rattle.journal_text.specs.declared.target.Close.{Close}
use Rattle.journal_text.specs.declared.target.Close.TheVariants.{Refuted}
use Rattle.audit_core.specs.Audit.{IsBelow, IsExcluded}

-- a section of the output without array that closes so
pub record IsWholeOf (output : ℕ) (close : Close) (s : Section) : Type 0 where
  pub of_output : s.output ≡ output
  pub no_array : array_of s.target ≡ None
  pub closes : s.close ≡ close

-- one of this size
pub record IsSizedOf (output : ℕ) (size : Size) (close : Close) (s : Section) : Type 0 where
  pub whole : IsWholeOf output close s
  pub size_is : size_of s.target ≡ size

-- a section of the output with this array that closes so
pub record IsMarkedOf (output : ℕ) (array : Defects) (close : Close) (s : Section) : Type 0 where
  pub of_output : s.output ≡ output
  pub array_is : array_of s.target ≡ Some array
  pub closes : s.close ≡ close

-- the part is a section of which this holds
abbrev pub IsSection : (Section → Type 0) → Part → Type 0
IsSection Holds (Question s) = Holds s
IsSection Holds (Answered block) = ⊥

-- what a list of proofs says of a section
abbrev pub proof_of : Section → Proof
proof_of s = record { shape = size_of s.target; steps = length s.steps }

-- the list of proofs of an answer tells of the sections that close as refuted
abbrev pub ListsClosed : ℕ → List Part → Answer → List Proof → Type 0
ListsClosed output before (answers.Found g) proofs = proofs ≡ []
ListsClosed output before (answers.Minimum g) proofs = Lists (IsWholeOf output Refuted) before proofs
ListsClosed output before (answers.Undecided g least at after) proofs = Lists (IsWholeOf output Refuted) before proofs
ListsClosed output before (answers.Mapped g a) proofs = proofs ≡ []
ListsClosed output before (answers.NoneMapped a) proofs = ListsFirst (IsMarkedOf output a Refuted) before proofs
ListsClosed output before (answers.MapUndecided a after) proofs = proofs ≡ []
ListsClosed output before (answers.NoRails on off) proofs = proofs ≡ []

-- in a version that has one
abbrev pub ListsClosedIn : Version → ℕ → List Part → Answer → List Proof → Type 0
ListsClosedIn One output before answer proofs = ⊤
ListsClosedIn Two output before answer proofs = ListsClosed output before answer proofs

-- a block of an output that is not below this one, by its name; and its function
pub record IsNamed (parts : Parts) (least : ℕ) (block : BlockParts) (f : Function) : Type 0 where
  pub later : least ≤ block.output
  pub name : slice_get parts.output_names block.output ≡ Some block.name
  pub function : slice_get parts.functions block.output ≡ Some f

-- the least output that an answer may be for after these parts
abbrev pub IsNext : List Part → ℕ → Type 0
IsNext before least = (output : ℕ) → All (IsBelow output) before ↔ (least ≤ output)

-- a list of sizes holds those that these parts exclude of an output
abbrev pub Keeps : List Part → ℕ → List Size → Type 0
Keeps before output sizes = (s : Size) → IsHeld sizes s ↔ IsExcluded before output s

-- there is such a list for each output
pub record AreKept (before : List Part) (outputs : ℕ) (lists : List (List Size)) : Type 0 where
  pub many : length lists ≡ outputs
  pub each : (k : ℕ) → k < outputs → Keeps before k (slice_index_or lists k [])
