-- When the parts of a journal are right for a PLA, and which part is the first that is not.
use Rattle.std.specs.Prelude.{◌≡◌, ◌⊎◌, ℕ, ◌<◌, ◌≤◌, ◌*◌, List, [], ◌∷◌, ◌++◌, ⊤, All, map, slice_get, Some, None, IfSome}
use Rattle.std.specs.List.{Contains}
use Rattle.std.specs.declared.option.Option.{Option}
use Rattle.clause_core.specs.Formula.{Formula}
use Rattle.cube_core.specs.Function.{Function}
use Rattle.lattice_grid.specs.Defects.{Defects}
use Rattle.lattice_grid.specs.Rails.{IsOverRails}
use Rattle.lattice_grid.specs.Rectangle.{Size, IsSize, FitsInside}
use Rattle.lattice_grid.specs.declared.start.Start.TheVariants.{Lacking}
use Rattle.lrat_replay.specs.Book.{Book, Accepts, after_lines, addition_fault, start}
use Rattle.lrat_replay.specs.Learned.{SpentWritten}
use Rattle.lrat_replay.specs.declared.fault.StepFault.{StepFault}
use Rattle.lrat_replay.specs.declared.line.LineKind.{LineKind}
use Rattle.lrat_replay.specs.declared.line.LineKind.TheVariants.{Add}
use Rattle.lrat_replay.specs.declared.line.Step.{Step}
use Rattle.path_meaning.specs.Defective.{RealisesIn}
use Rattle.path_meaning.specs.Failing.{IsLeastFailureIn}
use Rattle.pla_reader.specs.Parts.{Parts}
use Rattle.report_text.specs.Form.{lattice_of}
use Rattle.report_text.specs.Report.{BlockParts, parts_of_block}
use Rattle.report_text.specs.declared.answer.Answer.{Answer}
use Rattle.report_text.specs.declared.answer.Answer.TheVariants as answers
use Rattle.report_text.specs.declared.answer.Proof.{Proof}
use Rattle.report_text.specs.declared.answer.Version.{Version}
use Rattle.report_text.specs.declared.answer.Version.TheVariants.{One, Two}
use Rattle.journal_text.specs.Good.{Listed}
use Rattle.journal_text.specs.Least.{area, IsStart, IsNoLarger}
use Rattle.journal_text.specs.Parts.{Section, Part, Question, Answered, JournalParts, section_of, part_of, parts_of_journal}
use Rattle.journal_text.specs.Proved.{formula_of, HasWhole, HasMarked}
use Rattle.journal_text.specs.declared.journal.Journal.{Journal}
use Rattle.journal_text.specs.declared.journal.Part.{Part as PartRead}
use Rattle.journal_text.specs.declared.journal.PartKind.{PartKind}
use Rattle.journal_text.specs.declared.journal.PartKind.TheVariants as kinds
use Rattle.journal_text.specs.declared.journal.SectionText.{SectionText}
use Rattle.journal_text.specs.declared.journal.StepLine.{StepLine}
use Rattle.journal_text.specs.declared.target.Close.{Close}
use Rattle.journal_text.specs.declared.target.Close.TheVariants.{Refuted, Spent, Satisfied}
use Rattle.audit_core.specs.declared.refusal.AuditRefusal.{AuditRefusal}
use Rattle.audit_core.specs.declared.refusal.AuditRefusal.TheVariants as refusals

-- the PLA, and the version and the rails of the journal
pub record Basis : Type 0 where
  pub parts : Parts
  pub version : Version
  pub rails : ℕ

abbrev pub basis_of : Parts → JournalParts → Basis
basis_of parts journal = record { parts = parts; version = journal.version; rails = journal.rails }

-- ---- sections

-- What the steps come to where a section closes so: one is the empty clause; or they are exactly so many, each new.
abbrev pub Closes : Formula → List Step → Close → Type 0
Closes formula steps Refuted = (step : Step) × Contains steps step × (step.clause ≡ [])
Closes formula steps (Spent budget) = SpentWritten formula steps budget
Closes formula steps Satisfied = ⊤

-- the section is of an output with this function, and its steps are accepted one after the other
pub record IsReplayed (basis : Basis) (s : Section) (f : Function) : Type 0 where
  pub of_output : slice_get basis.parts.functions s.output ≡ Some f
  pub accepted : Accepts (start (formula_of basis.rails f s)) (map Add s.steps)

-- and they come to what it closes with
pub record IsRightSection (basis : Basis) (s : Section) : Type 0 where
  pub function : Function
  pub replayed : IsReplayed basis s function
  pub closes : Closes (formula_of basis.rails function s) s.steps s.close

-- what steps do, one after the other
abbrev pub adds_of : List StepLine → List LineKind
adds_of steps = map (λ l. Add l.step) steps

-- The steps before this one are accepted, and it is refused for the fault: the first that is.
pub record IsFirstFault (book : Book) (steps : List StepLine) (line : ℕ) (fault : StepFault) : Type 0 where
  pub before : List StepLine
  pub step : StepLine
  pub later : List StepLine
  pub whole : steps ≡ before ++ step ∷ later
  pub accepted : Accepts book (adds_of before)
  pub refused : addition_fault (after_lines book (adds_of before)) step.step.id step.step.clause step.step.hints ≡ Some fault
  pub line_is : line ≡ step.line

-- The steps are accepted, and do not come to what the section closes with.
pub record IsMisclosed (basis : Basis) (s : Section) : Type 0 where
  pub function : Function
  pub replayed : IsReplayed basis s function
  pub closes_not : Closes (formula_of basis.rails function s) s.steps s.close → ⊥

-- Why a section that begins on a line is not right: it is of no output; replay refuses a step; or it closes with what the steps do not come to.
abbrev pub IsSectionRefused : Basis → ℕ → SectionText → AuditRefusal → Type 0
IsSectionRefused basis begins s (refusals.Output line) = (line ≡ begins) × (basis.parts.outputs ≤ s.output)
IsSectionRefused basis begins s (refusals.Step line fault) =
    (f : Function) × (slice_get basis.parts.functions s.output ≡ Some f) × IsFirstFault (start (formula_of basis.rails f (section_of s))) s.steps.items line fault
IsSectionRefused basis begins s (refusals.Unfinished line) = (line ≡ s.close_line) × (s.close ≡ Refuted) × IsMisclosed basis (section_of s)
IsSectionRefused basis begins s (refusals.Count line) = (line ≡ s.close_line) × (budget : ℕ) × (s.close ≡ Spent budget) × IsMisclosed basis (section_of s)
IsSectionRefused basis begins s (refusals.Literal line) = ⊥
IsSectionRefused basis begins s (refusals.Wrong line x) = ⊥
IsSectionRefused basis begins s (refusals.Uncovered line) = ⊥
IsSectionRefused basis begins s (refusals.NoSection line) = ⊥
IsSectionRefused basis begins s (refusals.Large line) = ⊥
IsSectionRefused basis begins s (refusals.NoRails line) = ⊥
IsSectionRefused basis begins s (refusals.Proofs line) = ⊥
IsSectionRefused basis begins s refusals.NoMemory = ⊥

-- ---- answers

-- an answer, and the parts before it
pub record Claim : Type 0 where
  pub basis : Basis
  pub before : List Part
  pub block : BlockParts

-- a question, or an answer for an output below this one
abbrev pub IsBelow : ℕ → Part → Type 0
IsBelow output (Question s) = ⊤
IsBelow output (Answered block) = block.output < output

-- The answer is for an output of the PLA, by its name, and behind those of the answers before it; and this is its function.
pub record IsOf (c : Claim) (f : Function) : Type 0 where
  pub later : All (IsBelow c.block.output) c.before
  pub name : slice_get c.basis.parts.output_names c.block.output ≡ Some c.block.name
  pub function : slice_get c.basis.parts.functions c.block.output ≡ Some f

-- the array that the lattice of an answer stands on, where there is one
abbrev pub array_in : Answer → Option Defects
array_in (answers.Found g) = None
array_in (answers.Minimum g) = None
array_in (answers.Undecided g least at after) = None
array_in (answers.Mapped g a) = Some a
array_in (answers.NoneMapped a) = None
array_in (answers.MapUndecided a after) = None
array_in (answers.NoRails on off) = None

-- a pair that is said to lack rails is where the search over rails begins
abbrev pub HasPair : ℕ → Function → Answer → Type 0
HasPair rails f (answers.Found g) = ⊤
HasPair rails f (answers.Minimum g) = ⊤
HasPair rails f (answers.Undecided g least at after) = ⊤
HasPair rails f (answers.Mapped g a) = ⊤
HasPair rails f (answers.NoneMapped a) = ⊤
HasPair rails f (answers.MapUndecided a after) = ⊤
HasPair rails f (answers.NoRails on off) = IsStart rails f (Lacking on off)

-- a lattice below which an area is excluded is no larger than the one where the search begins
abbrev pub IsSmall : ℕ → Function → Answer → Type 0
IsSmall rails f (answers.Found g) = ⊤
IsSmall rails f (answers.Minimum g) = IsNoLarger rails f g
IsSmall rails f (answers.Undecided g least at after) = IsNoLarger rails f g
IsSmall rails f (answers.Mapped g a) = ⊤
IsSmall rails f (answers.NoneMapped a) = ⊤
IsSmall rails f (answers.MapUndecided a after) = ⊤
IsSmall rails f (answers.NoRails on off) = ⊤

-- The size fits inside that of a section of the output, without array, that closes as refuted.
abbrev pub IsExcluded : List Part → ℕ → Size → Type 0
IsExcluded before output s = (t : Size) × FitsInside s t × HasWhole before output t (λ q. q.close ≡ Refuted)

-- So does each size of smaller area.
abbrev pub AreExcluded : List Part → ℕ → ℕ → Type 0
AreExcluded before output least = (s : Size) → IsSize s → s.rows * s.cols < least → IsExcluded before output s

-- the area below which an answer excludes lattices
abbrev pub IsCovered : List Part → ℕ → Answer → Type 0
IsCovered before output (answers.Found g) = ⊤
IsCovered before output (answers.Minimum g) = AreExcluded before output (area g)
IsCovered before output (answers.Undecided g least at after) = AreExcluded before output least
IsCovered before output (answers.Mapped g a) = ⊤
IsCovered before output (answers.NoneMapped a) = ⊤
IsCovered before output (answers.MapUndecided a after) = ⊤
IsCovered before output (answers.NoRails on off) = ⊤

-- the section that an answer speaks of: of the output and of its size or its array, closed as the answer says
abbrev pub HasSection : List Part → ℕ → Answer → Type 0
HasSection before output (answers.Found g) = ⊤
HasSection before output (answers.Minimum g) = ⊤
HasSection before output (answers.Undecided g least at after) = HasWhole before output at (λ q. q.close ≡ Spent after)
HasSection before output (answers.Mapped g a) = ⊤
HasSection before output (answers.NoneMapped a) = HasMarked before output a (λ q. q.close ≡ Refuted)
HasSection before output (answers.MapUndecided a after) = HasMarked before output a (λ q. q.close ≡ Spent after)
HasSection before output (answers.NoRails on off) = ⊤

-- the list of proofs, in a version that has one
abbrev pub ListsProofs : Version → ℕ → ℕ → Function → List Part → Answer → List Proof → Type 0
ListsProofs One rails output f before answer proofs = ⊤
ListsProofs Two rails output f before answer proofs = Listed rails output f before answer proofs

-- what is asked of an answer for an output with a function
pub data Demand : Type 0 where
  OfPair : Demand
  OfLiterals : Demand
  OfValues : Demand
  OfArea : Demand
  OfCover : Demand
  OfSection : Demand
  OfProofs : Demand

-- in this order
abbrev pub demands : List Demand
demands = OfPair ∷ OfLiterals ∷ OfValues ∷ OfArea ∷ OfCover ∷ OfSection ∷ OfProofs ∷ []

abbrev pub Meets : Claim → Function → Demand → Type 0
Meets c f OfPair = HasPair c.basis.rails f c.block.answer
Meets c f OfLiterals = IfSome (lattice_of c.block.answer) (IsOverRails c.basis.parts.inputs c.basis.rails)
Meets c f OfValues = IfSome (lattice_of c.block.answer) (λ g. RealisesIn g f (array_in c.block.answer))
Meets c f OfArea = IsSmall c.basis.rails f c.block.answer
Meets c f OfCover = IsCovered c.before c.block.output c.block.answer
Meets c f OfSection = HasSection c.before c.block.output c.block.answer
Meets c f OfProofs = ListsProofs c.basis.version c.basis.rails c.block.output f c.before c.block.answer c.block.proofs

-- each of these is met
abbrev pub AreMet : (Demand → Type 0) → List Demand → Type 0
AreMet IsMet [] = ⊤
AreMet IsMet (d ∷ ds) = IsMet d × AreMet IsMet ds

-- of these in order, this is the first that is not met
abbrev pub IsFirstUnmet : (Demand → Type 0) → List Demand → Demand → Type 0
IsFirstUnmet IsMet [] unmet = ⊥
IsFirstUnmet IsMet (d ∷ ds) unmet = ((IsMet d → ⊥) × (unmet ≡ d)) ⊎ (IsMet d × IsFirstUnmet IsMet ds unmet)

-- A right answer is for an output of the PLA, and meets each demand.
pub record IsRightAnswer (c : Claim) : Type 0 where
  pub function : Function
  pub of_output : IsOf c function
  pub met : AreMet (Meets c function) demands

-- the lattice of the answer fails, first at this assignment
abbrev pub FailsFirst : Answer → Function → ℕ → Type 0
FailsFirst answer f x = IfSome (lattice_of answer) (λ g. IsLeastFailureIn g (array_in answer) f x)

-- what is said of an answer, on this line, that does not meet a demand
abbrev pub Tells : Answer → Function → ℕ → Demand → AuditRefusal → Type 0
Tells answer f line OfPair refusal = refusal ≡ refusals.NoRails line
Tells answer f line OfLiterals refusal = refusal ≡ refusals.Literal line
Tells answer f line OfValues refusal = (x : ℕ) × FailsFirst answer f x × (refusal ≡ refusals.Wrong line x)
Tells answer f line OfArea refusal = refusal ≡ refusals.Large line
Tells answer f line OfCover refusal = refusal ≡ refusals.Uncovered line
Tells answer f line OfSection refusal = refusal ≡ refusals.NoSection line
Tells answer f line OfProofs refusal = refusal ≡ refusals.Proofs line

-- The answer is for an output, and this tells the first demand that it does not meet.
pub record IsUnmet (c : Claim) (line : ℕ) (refusal : AuditRefusal) : Type 0 where
  pub function : Function
  pub of_output : IsOf c function
  pub demand : Demand
  pub first : IsFirstUnmet (Meets c function) demands demand
  pub tells : Tells c.block.answer function line demand refusal

-- Why an answer on a line is not right: it is for no output that may stand there, or it does not meet a demand.
abbrev pub IsAnswerRefused : Claim → ℕ → AuditRefusal → Type 0
IsAnswerRefused c line refusal = (((f : Function) → IsOf c f → ⊥) × (refusal ≡ refusals.Output line)) ⊎ IsUnmet c line refusal

-- ---- journals

abbrev pub IsRightPart : Basis → List Part → Part → Type 0
IsRightPart basis before (Question s) = IsRightSection basis s
IsRightPart basis before (Answered block) = IsRightAnswer (record { basis = basis; before = before; block = block })

-- each part is right after those before it
abbrev pub AreRight : Basis → List Part → Type 0
AreRight basis parts = (before : List Part) (part : Part) (later : List Part) → parts ≡ before ++ part ∷ later → IsRightPart basis before part

-- The journal is right for the PLA.
abbrev pub Audited : Parts → JournalParts → Type 0
Audited parts journal = AreRight (basis_of parts journal) journal.parts

abbrev pub IsKindRefused : Basis → List Part → ℕ → PartKind → AuditRefusal → Type 0
IsKindRefused basis before line (kinds.Question s) refusal = IsSectionRefused basis line s refusal
IsKindRefused basis before line (kinds.Answer block) refusal = IsAnswerRefused (record { basis = basis; before = before; block = parts_of_block block }) line refusal

-- A part is refused, and those before it are right.
pub record HasRefused (basis : Basis) (parts : List PartRead) (refusal : AuditRefusal) : Type 0 where
  pub before : List PartRead
  pub part : PartRead
  pub later : List PartRead
  pub whole : parts ≡ before ++ part ∷ later
  pub earlier : AreRight basis (map part_of before)
  pub refused : IsKindRefused basis (map part_of before) part.line part.what refusal

abbrev pub IsAuditRefused : Parts → Journal → AuditRefusal → Type 0
IsAuditRefused parts journal refusal = HasRefused (basis_of parts (parts_of_journal journal)) journal.parts.items refusal
