-- What the inputs of a command come to: a refusal, or a task that is theirs alone.
use Rattle.std.specs.Prelude.{◌≡◌, ◌⊎◌, ℕ, ◌<◌, ◌≤◌, true, false, List, length, drop, Ok, Err, Some, None, slice_get, IfSome}
use Rattle.std.specs.declared.option.Option.{Option}
use Rattle.audit_core.specs.Audit.{Audited}
use Rattle.audit_core.specs.declared.refusal.AuditRefusal.{AuditRefusal}
use Rattle.clause_core.specs.Formula.{Formula}
use Rattle.clause_core.specs.CnfRead.{cnf_of}
use Rattle.clause_core.specs.declared.refusal.CnfRefusal.{CnfRefusal}
use Rattle.cube_core.specs.Function.{Function}
use Rattle.defect_array.specs.Reading.{Reads as ReadsArray, Refused as IsNoArray}
use Rattle.defect_array.specs.declared.read.ArrayRefusal.{ArrayRefusal}
use Rattle.lattice_grid.specs.Defects.{Defects}
use Rattle.journal_text.specs.Parts.{JournalParts}
use Rattle.journal_text.specs.Reading.{Gives as GivesJournal, IsRefused as IsNoJournal}
use Rattle.lattice_grid.specs.Rectangle.{Size}
use Rattle.lrat_replay.specs.declared.fault.StepFault.{StepFault}
use Rattle.lrat_replay.specs.declared.line.Line.{Line}
use Rattle.lrat_replay.specs.Book.{start}
use Rattle.lrat_replay.specs.LratRead.{lrat_of}
use Rattle.pla_reader.specs.declared.pla.PlaRefusal.{PlaRefusal}
use Rattle.pla_reader.specs.Parts.{Parts}
use Rattle.pla_reader.specs.Reading.{Reads, Refused as IsPlaRefused}
use Rattle.report_text.specs.Reading.{Gives, IsRefused}
use Rattle.report_text.specs.Report.{ReportParts}
use Rattle.trial_text.specs.Made.{made}
use Rattle.four_lattice.specs.Audited.{IsUnaudited}
use Rattle.four_lattice.specs.Check.{IsFirstFault, IsAccepted, adds_empty, end_line}
use Rattle.four_lattice.specs.Lattices.{IsThere}
use Rattle.four_lattice.specs.Uses.{most_side_bytes}
use Rattle.four_lattice.specs.Verified.{IsVerified, IsDenied}
use Rattle.four_lattice.specs.declared.lattices.Construction.{Construction}
use Rattle.four_lattice.specs.declared.lattices.Construction.TheVariants as construction
use Rattle.four_lattice.specs.declared.ending.InputRefusal.TheVariants.{Pla, NoSuchOutput, Cnf, Array}
use Rattle.four_lattice.specs.declared.ending.SideRefusal.{SideRefusal}
use Rattle.four_lattice.specs.declared.ending.SideRefusal.TheVariants.{TooLong, Report, Lrat, Journal}
use Rattle.four_lattice.specs.declared.ending.Unconfirmed.TheVariants.{Denied, Step, Unfinished, Unaudited}
use Rattle.four_lattice.specs.declared.ending.Refusal.{Refusal}
use Rattle.four_lattice.specs.declared.ending.Refusal.TheVariants.{Words, Input, Side, Unconfirmed}
use Rattle.four_lattice.specs.declared.verify.VerifyRefusal.{VerifyRefusal}
use Rattle.four_lattice.specs.declared.words.Job.{Job}
use Rattle.four_lattice.specs.declared.words.Job.TheVariants as job

-- the texts of the standard input and of the side file, where they are told
pub record Texts : Type 0 where
  pub pla : Option (List ℕ)
  pub side : Option (List ℕ)

-- what is left to do once nothing is refused
pub data Task : Type 0 where
  Lattices : Construction → Option ℕ → Parts → Task
  Encoding : Size → Function → Task
  Realised : ReportParts → Task
  Refuted : Task
  Confirmed : JournalParts → Task
  Renewed : Parts → JournalParts → Task
  Minima : (rails budget : ℕ) → Option ℕ → Parts → Task
  Placed : (budget output : ℕ) → Defects → Parts → Task
  Tried : (number budget : ℕ) → Parts → Task

pub data Judgement : Type 0 where
  Refused : Refusal → Judgement
  Accepted : Task → Judgement

-- How a text that may be untold is spoken of: "where it is told" by `IfSome`, "it is told, and" by `IsSomeAnd`.
abbrev pub OfTold : Type 1
OfTold = Option (List ℕ) → (List ℕ → Type 0) → Type 0

-- Something refuses; or there is a value, and the rest follows from it.
abbrev pub Stage : (X : Type 0) → (Refusal → Type 0) → (X → Type 0) → (X → Judgement → Type 0) → Judgement → Type 0
Stage X Refuses Gives next j = ((refusal : Refusal) × Refuses refusal × (j ≡ Refused refusal)) ⊎ ((x : X) × Gives x × next x j)

-- Something refuses; or it holds, and this is the task.
abbrev pub Last : (Refusal → Type 0) → Type 0 → Task → Judgement → Type 0
Last Refuses Holds task j = ((refusal : Refusal) × Refuses refusal × (j ≡ Refused refusal)) ⊎ (Holds × (j ≡ Accepted task))

-- Something refuses; or it holds, and the rest follows.
abbrev pub Test : (Refusal → Type 0) → Type 0 → (Judgement → Type 0) → Judgement → Type 0
Test Refuses Holds next j = ((refusal : Refusal) × Refuses refusal × (j ≡ Refused refusal)) ⊎ (Holds × next j)

-- A text is refused, and so the job.
abbrev pub TextRefuses : {R : Type 0} → OfTold → Option (List ℕ) → (R → Refusal) → (List ℕ → R → Type 0) → Refusal → Type 0
TextRefuses {R} Of told at IsRefusedText refusal = (r : R) × Of told (λ bytes. IsRefusedText bytes r) × (refusal ≡ at r)

-- the text of a PLA
abbrev pub as_pla : PlaRefusal → Refusal
as_pla r = Input (Pla r)

abbrev pub PlaRefuses : OfTold → Texts → Refusal → Type 0
PlaRefuses Of x = TextRefuses Of x.pla as_pla IsPlaRefused

abbrev pub PlaGives : OfTold → Texts → Parts → Type 0
PlaGives Of x parts = Of x.pla (λ bytes. Reads bytes parts)

-- the text of a formula
abbrev pub as_cnf : CnfRefusal → Refusal
as_cnf r = Input (Cnf r)

abbrev pub IsCnfRefused : List ℕ → CnfRefusal → Type 0
IsCnfRefused bytes r = cnf_of bytes ≡ Err r

abbrev pub CnfRefuses : OfTold → Texts → Refusal → Type 0
CnfRefuses Of x = TextRefuses Of x.pla as_cnf IsCnfRefused

abbrev pub CnfGives : OfTold → Texts → Formula → Type 0
CnfGives Of x formula = Of x.pla (λ bytes. cnf_of bytes ≡ Ok formula)

-- the text of an array: what follows the line that ends the PLA
abbrev pub as_array : ArrayRefusal → Refusal
as_array r = Input (Array r)

abbrev pub IsArrayRefused : Parts → List ℕ → ArrayRefusal → Type 0
IsArrayRefused parts bytes r = IsNoArray (drop parts.rest bytes) r

abbrev pub ArrayRefuses : OfTold → Texts → Parts → Refusal → Type 0
ArrayRefuses Of x parts = TextRefuses Of x.pla as_array (IsArrayRefused parts)

abbrev pub ArrayGives : OfTold → Texts → Parts → Defects → Type 0
ArrayGives Of x parts a = Of x.pla (λ bytes. ReadsArray (drop parts.rest bytes) a)

-- a side file with the lines of a proof
abbrev pub IsLratRefused : List ℕ → SideRefusal → Type 0
IsLratRefused bytes TooLong = most_side_bytes < length bytes
IsLratRefused bytes (Report r) = ⊥
IsLratRefused bytes (Lrat r) = (length bytes ≤ most_side_bytes) × (lrat_of bytes ≡ Err r)
IsLratRefused bytes (Journal r) = ⊥

abbrev pub LratRefuses : OfTold → Texts → Refusal → Type 0
LratRefuses Of x = TextRefuses Of x.side Side IsLratRefused

abbrev pub LratGives : OfTold → Texts → List Line → Type 0
LratGives Of x lines = Of x.side (λ bytes. (length bytes ≤ most_side_bytes) × (lrat_of bytes ≡ Ok lines))

-- a side file with a report
abbrev pub IsReportRefused : List ℕ → SideRefusal → Type 0
IsReportRefused bytes TooLong = most_side_bytes < length bytes
IsReportRefused bytes (Report r) = (length bytes ≤ most_side_bytes) × IsRefused bytes r
IsReportRefused bytes (Lrat r) = ⊥
IsReportRefused bytes (Journal r) = ⊥

abbrev pub ReportRefuses : OfTold → Texts → Refusal → Type 0
ReportRefuses Of x = TextRefuses Of x.side Side IsReportRefused

abbrev pub ReportGives : OfTold → Texts → ReportParts → Type 0
ReportGives Of x report = Of x.side (λ bytes. (length bytes ≤ most_side_bytes) × Gives bytes (Ok report))

-- a side file with a journal
abbrev pub IsJournalRefused : List ℕ → SideRefusal → Type 0
IsJournalRefused bytes TooLong = most_side_bytes < length bytes
IsJournalRefused bytes (Report r) = ⊥
IsJournalRefused bytes (Lrat r) = ⊥
IsJournalRefused bytes (Journal r) = (length bytes ≤ most_side_bytes) × IsNoJournal bytes r

abbrev pub JournalRefuses : OfTold → Texts → Refusal → Type 0
JournalRefuses Of x = TextRefuses Of x.side Side IsJournalRefused

abbrev pub JournalGives : OfTold → Texts → JournalParts → Type 0
JournalGives Of x journal = Of x.side (λ bytes. (length bytes ≤ most_side_bytes) × GivesJournal bytes (Ok journal))

-- the PLA has not the chosen output
abbrev pub LacksOutput : Option ℕ → Parts → Refusal → Type 0
LacksOutput output parts refusal = (IsThere output parts.outputs → ⊥) × (refusal ≡ Input NoSuchOutput)

abbrev pub LacksFunction : ℕ → Parts → Refusal → Type 0
LacksFunction output parts refusal = (slice_get parts.functions output ≡ None) × (refusal ≡ Input NoSuchOutput)

-- the report does not verify
abbrev pub Denies : Parts → ReportParts → Refusal → Type 0
Denies parts report refusal = (r : VerifyRefusal) × IsDenied parts report r × (refusal ≡ Unconfirmed (Denied r))

-- the journal is not right
abbrev pub Unconfirms : Parts → JournalParts → Refusal → Type 0
Unconfirms parts journal refusal = (r : AuditRefusal) × IsUnaudited parts journal r × (refusal ≡ Unconfirmed (Unaudited r))

-- a line is refused, or none adds the empty clause, and this is the number of the line on which they end
abbrev pub LinesStop : Formula → List Line → ℕ → Refusal → Type 0
LinesStop formula lines last refusal =
    ((fault : StepFault) × (line : ℕ) × IsFirstFault (start formula) lines fault line × (refusal ≡ Unconfirmed (Step fault line)))
    ⊎ (IsAccepted formula lines × (adds_empty formula lines ≡ false) × (refusal ≡ Unconfirmed (Unfinished last)))

abbrev pub LinesRefuse : OfTold → Texts → Formula → List Line → Refusal → Type 0
LinesRefuse Of x formula lines refusal = (last : ℕ) × Of x.side (λ bytes. last ≡ end_line bytes) × LinesStop formula lines last refusal

-- Lattices of the chosen outputs of a PLA.
abbrev pub LatticesCome : OfTold → Construction → Option ℕ → Texts → Judgement → Type 0
LatticesCome Of how output x =
    Stage Parts (PlaRefuses Of x) (PlaGives Of x) (λ parts.
    Last (LacksOutput output parts) (IsThere output parts.outputs) (Lattices how output parts))

-- The formula of a size for an output of a PLA.
abbrev pub EncodingComes : OfTold → ℕ → Size → Texts → Judgement → Type 0
EncodingComes Of output size x =
    Stage Parts (PlaRefuses Of x) (PlaGives Of x) (λ parts.
    Stage Function (LacksFunction output parts) (λ f. slice_get parts.functions output ≡ Some f) (λ f j. j ≡ Accepted (Encoding size f)))

-- A report tested against a PLA.
abbrev pub VerifyComes : OfTold → Texts → Judgement → Type 0
VerifyComes Of x =
    Stage Parts (PlaRefuses Of x) (PlaGives Of x) (λ parts.
    Stage ReportParts (ReportRefuses Of x) (ReportGives Of x) (λ report.
    Last (Denies parts report) (IsVerified parts report) (Realised report)))

-- Lines replayed after a formula.
abbrev pub CheckComes : OfTold → Texts → Judgement → Type 0
CheckComes Of x =
    Stage Formula (CnfRefuses Of x) (CnfGives Of x) (λ formula.
    Stage (List Line) (LratRefuses Of x) (LratGives Of x) (λ lines.
    Last (LinesRefuse Of x formula lines) (IsAccepted formula lines × (adds_empty formula lines ≡ true)) Refuted))

-- A journal tested against a PLA, and what is left to do where it is right.
abbrev pub JournalComes : OfTold → (Parts → JournalParts → Task) → Texts → Judgement → Type 0
JournalComes Of task x =
    Stage Parts (PlaRefuses Of x) (PlaGives Of x) (λ parts.
    Stage JournalParts (JournalRefuses Of x) (JournalGives Of x) (λ journal.
    Last (Unconfirms parts journal) (Audited parts journal) (task parts journal)))

-- its answers are counted
abbrev pub AuditComes : OfTold → Texts → Judgement → Type 0
AuditComes Of x = JournalComes Of (λ parts journal. Confirmed journal) x

-- it is made anew
abbrev pub RenewComes : OfTold → Texts → Judgement → Type 0
RenewComes Of x = JournalComes Of Renewed x

-- Lattices of least area over rails of the chosen outputs of a PLA, with at most so many conflicts for a question.
abbrev pub SynthComes : OfTold → ℕ → ℕ → Option ℕ → Texts → Judgement → Type 0
SynthComes Of rails budget output x =
    Stage Parts (PlaRefuses Of x) (PlaGives Of x) (λ parts.
    Last (LacksOutput output parts) (IsThere output parts.outputs) (Minima rails budget output parts))

-- A lattice for an output of a PLA on the array that follows it, with at most so many conflicts.
abbrev pub MapComes : OfTold → ℕ → ℕ → Texts → Judgement → Type 0
MapComes Of budget output x =
    Stage Parts (PlaRefuses Of x) (PlaGives Of x) (λ parts.
    Test (LacksOutput (Some output) parts) (IsThere (Some output) parts.outputs)
    (Stage Defects (ArrayRefuses Of x parts) (ArrayGives Of x parts) (λ a j. j ≡ Accepted (Placed budget output a parts))))

-- Lattices of least area of all outputs of the PLA that a number makes, with at most so many conflicts for a question. No text is read.
abbrev pub TrialComes : ℕ → ℕ → Judgement → Type 0
TrialComes number budget j = (parts : Parts) × Reads (made number) parts × (j ≡ Accepted (Tried number budget parts))

-- What the texts of a job come to: the standard input first, the chosen output, the array, the side file, then what is tested of it.
abbrev pub JobComes : OfTold → Job → Texts → Judgement → Type 0
JobComes Of (job.Pairs output) x = LatticesCome Of construction.Pairs output x
JobComes Of (job.Dual output) x = LatticesCome Of construction.Dual output x
JobComes Of (job.Cnf output size) x = EncodingComes Of output size x
JobComes Of job.Verify x = VerifyComes Of x
JobComes Of job.Check x = CheckComes Of x
JobComes Of job.Audit x = AuditComes Of x
JobComes Of job.Renew x = RenewComes Of x
JobComes Of (job.Synth conflicts output rails) x = SynthComes Of rails conflicts output x
JobComes Of (job.Map conflicts output) x = MapComes Of conflicts output x
JobComes Of (job.Trial conflicts number) x = TrialComes number conflicts

-- What words and texts come to. Words that ask for no job are refused.
abbrev pub Comes : OfTold → Option Job → Texts → Judgement → Type 0
Comes Of None x j = j ≡ Refused Words
Comes Of (Some asked) x j = JobComes Of asked x j

-- The text before the side file is accepted.
abbrev pub Opens : Option Job → Texts → Type 0
Opens None x = ⊥
Opens (Some (job.Pairs output)) x = ⊥
Opens (Some (job.Dual output)) x = ⊥
Opens (Some (job.Cnf output size)) x = ⊥
Opens (Some job.Verify) x = (parts : Parts) × PlaGives IfSome x parts
Opens (Some job.Check) x = (formula : Formula) × CnfGives IfSome x formula
Opens (Some job.Audit) x = (parts : Parts) × PlaGives IfSome x parts
Opens (Some job.Renew) x = (parts : Parts) × PlaGives IfSome x parts
Opens (Some (job.Synth conflicts output rails)) x = ⊥
Opens (Some (job.Map conflicts output)) x = ⊥
Opens (Some (job.Trial conflicts number)) x = ⊥

-- The inputs are accepted.
abbrev pub IsGranted : (Judgement → Type 0) → Type 0
IsGranted J = (task : Task) × J (Accepted task)
