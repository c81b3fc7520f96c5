-- What `synth` and `map` answer: a report with a block for each chosen output, and a journal that shows what its answers say.
use Rattle.std.specs.Prelude.{◌≡◌, ℕ, Bool, true, false, List, [], ◌∷◌, ◌++◌, All, map, slice_get, Some, None, IfSome}
use Rattle.std.specs.List.{list_any, range_with_len}
use Rattle.std.specs.declared.option.Option.{Option}
use Rattle.cube_core.specs.Function.{Function}
use Rattle.defect_array.specs.Place.{HoldsOnArray}
use Rattle.lattice_grid.specs.Defects.{Defects}
use Rattle.pla_reader.specs.Parts.{Parts}
use Rattle.report_text.specs.declared.answer.Answer.{Answer}
use Rattle.report_text.specs.declared.answer.Answer.TheVariants.{Found, Minimum, Undecided, Mapped, NoneMapped, MapUndecided, NoRails}
use Rattle.report_text.specs.declared.answer.Version.TheVariants.{Two}
use Rattle.report_text.specs.Bounds.{IsReport}
use Rattle.report_text.specs.Report.{BlockParts, ReportParts, head_text, blocks_text, report_text}
use Rattle.journal_text.specs.Bounds.{IsJournal}
use Rattle.journal_text.specs.Parts.{Part, Question, Answered, JournalParts}
use Rattle.journal_text.specs.Text.{front_text, journal_text}
use Rattle.audit_core.specs.Audit.{Audited}
use Rattle.area_search.specs.Answer.{HoldsOfLattices}
use Rattle.lattice_question.specs.Written.{IsShown}

-- what is sought of outputs: lattices of least area, or a lattice on an array
pub data Sought : Type 0 where
  Least : Sought
  OnArray : Defects → Sought

-- What an answer says of lattices alone, by what is sought.
abbrev pub Holds : Sought → (rails budget : ℕ) → Function → Answer → Type 0
Holds Least rails budget f answer = HoldsOfLattices rails f answer
Holds (OnArray a) rails budget f answer = HoldsOnArray f a budget answer

-- A front of a text.
abbrev pub IsFront : List ℕ → List ℕ → Type 0
IsFront front text = (rest : List ℕ) × (text ≡ front ++ rest)

-- the chosen outputs of so many, in rising order: all, or the one
abbrev pub chosen_outputs : Option ℕ → ℕ → List ℕ
chosen_outputs None many = range_with_len 0 many
chosen_outputs (Some k) many = k ∷ []

-- The block has the name of its output.
abbrev pub IsNamed : Parts → BlockParts → Type 0
IsNamed parts block = slice_get parts.output_names block.output ≡ Some block.name

-- A report of version 2 with these rails and the PLA's input names, and one block for each chosen output, in order, with its name.
pub record IsAnswersReport (rails : ℕ) (output : Option ℕ) (parts : Parts) (report : ReportParts) : Type 0 where
  pub version : report.version ≡ Two
  pub rails_are : report.rails ≡ rails
  pub names : report.input_names ≡ parts.input_names
  pub outputs : map (λ block. block.output) report.blocks ≡ chosen_outputs output parts.outputs
  pub named : All (IsNamed parts) report.blocks
  pub bounds : IsReport report

-- the blocks of the answers among the parts
abbrev pub answers_of : List Part → List BlockParts
answers_of [] = []
answers_of (Question s ∷ parts) = answers_of parts
answers_of (Answered block ∷ parts) = block ∷ answers_of parts

-- A journal of version 2 with these rails, whose answers are the blocks of the report, in order.
pub record IsAnswersJournal (rails : ℕ) (report : ReportParts) (journal : JournalParts) : Type 0 where
  pub version : journal.version ≡ Two
  pub rails_are : journal.rails ≡ rails
  pub answers : answers_of journal.parts ≡ report.blocks
  pub bounds : IsJournal journal

-- What the block says of lattices alone holds of the function of its output.
pub record IsHeld (sought : Sought) (rails budget : ℕ) (parts : Parts) (block : BlockParts) : Type 0 where
  pub function : Function
  pub of_output : slice_get parts.functions block.output ≡ Some function
  pub holds : Holds sought rails budget function block.answer

-- The block is the answer of one of the parts, which is good, licensed with the budget and listed behind the parts before it.
pub record IsShownIn (rails budget : ℕ) (parts : Parts) (all : List Part) (block : BlockParts) : Type 0 where
  pub before : List Part
  pub later : List Part
  pub whole : all ≡ before ++ Answered block ∷ later
  pub function : Function
  pub of_output : slice_get parts.functions block.output ≡ Some function
  pub shown : IsShown rails block.output function budget before block.answer block.proofs

-- an answer that leaves open what was sought
abbrev pub is_undecided : Answer → Bool
is_undecided (Found g) = false
is_undecided (Minimum g) = false
is_undecided (Undecided g least at after) = true
is_undecided (Mapped g a) = false
is_undecided (NoneMapped a) = false
is_undecided (MapUndecided a after) = true
is_undecided (NoRails on off) = false

-- ---- the whole

-- The bytes are a journal that answers with the blocks of the report, and shows each; and it is right for the PLA, as an audit tests it.
pub record IsShowing (rails budget : ℕ) (parts : Parts) (report : ReportParts) (bytes : List ℕ) : Type 0 where
  pub journal : JournalParts
  pub is : IsAnswersJournal rails report journal
  pub text : bytes ≡ journal_text journal
  pub shown : All (IsShownIn rails budget parts journal.parts) report.blocks
  pub audited : Audited parts journal

-- The standard output got a report whose blocks hold, and the journal, where it tells, one that shows them.
pub record AreAnswers (sought : Sought) (rails budget : ℕ) (output : Option ℕ) (parts : Parts) (out : List ℕ) (journal : Option (List ℕ)) (undecided : Bool) : Type 0 where
  pub report : ReportParts
  pub is : IsAnswersReport rails output parts report
  pub text : out ≡ report_text report
  pub held : All (IsHeld sought rails budget parts) report.blocks
  pub shown : IfSome journal (IsShowing rails budget parts report)
  pub undecided_is : undecided ≡ list_any (λ block. is_undecided block.answer) report.blocks

-- ---- what stands of it

-- In the bytes the block of the report stands whole, with its line of proofs.
pub record StandsWhole (report : ReportParts) (bytes : List ℕ) (block : BlockParts) : Type 0 where
  pub before : List BlockParts
  pub later : List BlockParts
  pub whole : report.blocks ≡ before ++ block ∷ later
  pub front : IsFront (head_text report.version report.rails report.input_names ++ blocks_text report.version (before ++ block ∷ [])) bytes

-- The block is shown by a part of the journal that stands whole in the bytes.
pub record StandsShown (rails budget : ℕ) (parts : Parts) (journal : JournalParts) (bytes : List ℕ) (block : BlockParts) : Type 0 where
  pub shown : IsShownIn rails budget parts journal.parts block
  pub stands : IsFront (front_text journal.version journal.rails (shown.before ++ Answered block ∷ [])) bytes

-- The bytes are a front of a journal that answers with the blocks of the report; each block that stands whole in `out` is shown, by what stands whole here.
pub record BeginsShowing (rails budget : ℕ) (parts : Parts) (report : ReportParts) (out bytes : List ℕ) : Type 0 where
  pub journal : JournalParts
  pub is : IsAnswersJournal rails report journal
  pub front : IsFront bytes (journal_text journal)
  pub shown : (block : BlockParts) → StandsWhole report out block → StandsShown rails budget parts journal bytes block

-- The standard output got a front of a report, and the journal, where it tells, a front of one that answers with its blocks. Each block that stands whole in
-- the standard output holds, and is shown by what stands whole in the journal.
pub record BeginAnswers (sought : Sought) (rails budget : ℕ) (output : Option ℕ) (parts : Parts) (out : List ℕ) (journal : Option (List ℕ)) : Type 0 where
  pub report : ReportParts
  pub is : IsAnswersReport rails output parts report
  pub front : IsFront out (report_text report)
  pub held : (block : BlockParts) → StandsWhole report out block → IsHeld sought rails budget parts block
  pub shown : IfSome journal (BeginsShowing rails budget parts report out)
