-- The status and the line of notes of an ending.
use Rattle.std.specs.Prelude.{ℕ, List, [], ◌++◌, codes}
use Rattle.std.specs.Fmt.{decimal}
use Rattle.audit_core.specs.declared.refusal.AuditRefusal.{AuditRefusal}
use Rattle.audit_core.specs.declared.refusal.AuditRefusal.TheVariants as audit
use Rattle.clause_core.specs.declared.refusal.CnfRefusal.{CnfRefusal}
use Rattle.clause_core.specs.declared.refusal.CnfRefusal.TheVariants as cnf
use Rattle.defect_array.specs.declared.read.ArrayRefusal.{ArrayRefusal}
use Rattle.defect_array.specs.declared.read.ArrayRefusal.TheVariants as array
use Rattle.journal_text.specs.declared.refusal.JournalRefusal.{JournalRefusal}
use Rattle.journal_text.specs.declared.refusal.JournalRefusal.TheVariants as journal
use Rattle.lrat_replay.specs.declared.fault.StepFault.{StepFault}
use Rattle.lrat_replay.specs.declared.fault.StepFault.TheVariants as fault
use Rattle.lrat_replay.specs.declared.refusal.LratRefusal.{LratRefusal}
use Rattle.lrat_replay.specs.declared.refusal.LratRefusal.TheVariants as lrat
use Rattle.pla_reader.specs.declared.pla.PlaRefusal.{PlaRefusal}
use Rattle.pla_reader.specs.declared.pla.PlaRefusal.TheVariants as pla
use Rattle.report_text.specs.declared.report.ReportRefusal.{ReportRefusal}
use Rattle.report_text.specs.declared.report.ReportRefusal.TheVariants as report
use Rattle.four_lattice.specs.declared.verify.VerifyRefusal.{VerifyRefusal}
use Rattle.four_lattice.specs.declared.verify.VerifyRefusal.TheVariants as verify
use Rattle.four_lattice.specs.declared.notes.Spot.{Spot}
use Rattle.four_lattice.specs.declared.notes.Spot.TheVariants.{Nowhere, At, AssignmentAt, AssignmentOf}
use Rattle.four_lattice.specs.declared.status.Status.{Status}
use Rattle.four_lattice.specs.declared.status.Status.TheVariants as status
use Rattle.four_lattice.specs.declared.ending.InputRefusal.{InputRefusal}
use Rattle.four_lattice.specs.declared.ending.InputRefusal.TheVariants.{Pla, NoSuchOutput, Cnf, Array}
use Rattle.four_lattice.specs.declared.ending.SideRefusal.{SideRefusal}
use Rattle.four_lattice.specs.declared.ending.SideRefusal.TheVariants.{TooLong, Report, Lrat, Journal}
use Rattle.four_lattice.specs.declared.ending.Unconfirmed.{Unconfirmed}
use Rattle.four_lattice.specs.declared.ending.Unconfirmed.TheVariants.{Denied, Step, Unfinished, Unaudited}
use Rattle.four_lattice.specs.declared.ending.Refusal.{Refusal}
use Rattle.four_lattice.specs.declared.ending.Refusal.TheVariants as refusal
use Rattle.four_lattice.specs.declared.ending.Ending.{Ending}
use Rattle.four_lattice.specs.declared.ending.Ending.TheVariants.{Done, Undecided, Refused, ReadFault, WriteFault, NoMemory}

-- the status of a refusal, by its level
abbrev pub refusal_status : Refusal → Status
refusal_status refusal.Words = status.Words
refusal_status (refusal.Input r) = status.Input
refusal_status (refusal.Side r) = status.Side
refusal_status (refusal.Unconfirmed r) = status.Unconfirmed

abbrev pub status_of : Ending → Status
status_of Done = status.Done
status_of Undecided = status.Undecided
status_of (Refused r) = refusal_status r
status_of ReadFault = status.ReadFault
status_of WriteFault = status.WriteFault
status_of NoMemory = status.NoMemory

abbrev pub number_of : Status → ℕ
number_of status.Done = 0
number_of status.Words = 1
number_of status.Input = 2
number_of status.ReadFault = 3
number_of status.WriteFault = 4
number_of status.NoMemory = 5
number_of status.Side = 6
number_of status.Undecided = 7
number_of status.Unconfirmed = 8

abbrev pub pla_name : PlaRefusal → List ℕ
pla_name pla.TooLong = codes "TooLong"
pla_name (pla.BadByte line) = codes "BadByte"
pla_name (pla.UnknownWord line) = codes "UnknownWord"
pla_name (pla.Unsupported line) = codes "Unsupported"
pla_name (pla.Repeated line) = codes "Repeated"
pla_name (pla.BadNumber line) = codes "BadNumber"
pla_name (pla.Late line) = codes "Late"
pla_name (pla.Missing line) = codes "Missing"
pla_name (pla.Inputs line) = codes "Inputs"
pla_name (pla.Outputs line) = codes "Outputs"
pla_name (pla.RowLength line) = codes "RowLength"
pla_name (pla.BadDigit line) = codes "BadDigit"
pla_name (pla.Names line) = codes "Names"
pla_name (pla.TooManyRows line) = codes "TooManyRows"
pla_name (pla.Conflict output assign) = codes "Conflict"
pla_name pla.NoMemory = codes "NoMemory"

-- where a refusal of a PLA lies
abbrev pub pla_spot : PlaRefusal → Spot
pla_spot pla.TooLong = Nowhere
pla_spot (pla.BadByte line) = At line
pla_spot (pla.UnknownWord line) = At line
pla_spot (pla.Unsupported line) = At line
pla_spot (pla.Repeated line) = At line
pla_spot (pla.BadNumber line) = At line
pla_spot (pla.Late line) = At line
pla_spot (pla.Missing line) = At line
pla_spot (pla.Inputs line) = At line
pla_spot (pla.Outputs line) = At line
pla_spot (pla.RowLength line) = At line
pla_spot (pla.BadDigit line) = At line
pla_spot (pla.Names line) = At line
pla_spot (pla.TooManyRows line) = At line
pla_spot (pla.Conflict output assign) = AssignmentOf output assign
pla_spot pla.NoMemory = Nowhere

abbrev pub cnf_name : CnfRefusal → List ℕ
cnf_name (cnf.Header line) = codes "Header"
cnf_name (cnf.Literal line) = codes "Literal"
cnf_name (cnf.Count line) = codes "Count"
cnf_name (cnf.Unended line) = codes "Unended"
cnf_name cnf.TooLong = codes "TooLong"
cnf_name (cnf.TooLarge line) = codes "TooLarge"
cnf_name cnf.NoMemory = codes "NoMemory"

abbrev pub array_name : ArrayRefusal → List ℕ
array_name array.Empty = codes "Empty"
array_name (array.Ragged line) = codes "Ragged"
array_name (array.Byte line) = codes "Byte"
array_name (array.TooLarge line) = codes "TooLarge"
array_name array.NoMemory = codes "NoMemory"

abbrev pub report_name : ReportRefusal → List ℕ
report_name (report.Header line) = codes "Header"
report_name (report.Inputs line) = codes "Inputs"
report_name (report.Rails line) = codes "Rails"
report_name (report.Block line) = codes "Block"
report_name (report.Grid line) = codes "Grid"
report_name (report.Proofs line) = codes "Proofs"
report_name (report.Trailing line) = codes "Trailing"
report_name (report.Truncated line) = codes "Truncated"
report_name report.NoMemory = codes "NoMemory"

abbrev pub verify_name : VerifyRefusal → List ℕ
verify_name (verify.Inputs line) = codes "Inputs"
verify_name (verify.Output line) = codes "Output"
verify_name (verify.Literal line) = codes "Literal"
verify_name (verify.Wrong line assign) = codes "Wrong"
verify_name verify.NoMemory = codes "NoMemory"

-- where a report does not verify
abbrev pub verify_spot : VerifyRefusal → Spot
verify_spot (verify.Inputs line) = At line
verify_spot (verify.Output line) = At line
verify_spot (verify.Literal line) = At line
verify_spot (verify.Wrong line assign) = AssignmentAt line assign
verify_spot verify.NoMemory = Nowhere

abbrev pub step_name : StepFault → List ℕ
step_name fault.Order = codes "Order"
step_name fault.Unknown = codes "Unknown"
step_name fault.Satisfied = codes "Satisfied"
step_name fault.Loose = codes "Loose"
step_name fault.NoConflict = codes "NoConflict"
step_name fault.Rat = codes "Rat"
step_name fault.Tautology = codes "Tautology"
step_name fault.Variable = codes "Variable"
step_name fault.NoMemory = codes "NoMemory"

abbrev pub lrat_name : LratRefusal → List ℕ
lrat_name (lrat.Word line) = codes "Word"
lrat_name (lrat.Form line) = codes "Form"
lrat_name lrat.NoMemory = codes "NoMemory"

abbrev pub journal_name : JournalRefusal → List ℕ
journal_name (journal.Header line) = codes "Header"
journal_name (journal.Rails line) = codes "Rails"
journal_name (journal.Word line) = codes "Word"
journal_name (journal.Order line) = codes "Order"
journal_name (journal.Question line) = codes "Question"
journal_name (journal.Step line) = codes "Step"
journal_name (journal.Block line) = codes "Block"
journal_name (journal.Proofs line) = codes "Proofs"
journal_name (journal.Trailing line) = codes "Trailing"
journal_name (journal.Truncated line) = codes "Truncated"
journal_name journal.NoMemory = codes "NoMemory"

-- a step that replay refuses has the name of its fault
abbrev pub audit_name : AuditRefusal → List ℕ
audit_name (audit.Output line) = codes "Output"
audit_name (audit.Literal line) = codes "Literal"
audit_name (audit.Wrong line assign) = codes "Wrong"
audit_name (audit.Step line f) = step_name f
audit_name (audit.Unfinished line) = codes "Unfinished"
audit_name (audit.Count line) = codes "Count"
audit_name (audit.Uncovered line) = codes "Uncovered"
audit_name (audit.NoSection line) = codes "NoSection"
audit_name (audit.Large line) = codes "Large"
audit_name (audit.NoRails line) = codes "NoRails"
audit_name (audit.Proofs line) = codes "Proofs"
audit_name audit.NoMemory = codes "NoMemory"

-- where a refusal of a CNF lies
abbrev pub cnf_spot : CnfRefusal → Spot
cnf_spot (cnf.Header line) = At line
cnf_spot (cnf.Literal line) = At line
cnf_spot (cnf.Count line) = At line
cnf_spot (cnf.Unended line) = At line
cnf_spot cnf.TooLong = Nowhere
cnf_spot (cnf.TooLarge line) = At line
cnf_spot cnf.NoMemory = Nowhere

-- where a refusal of an array lies
abbrev pub array_spot : ArrayRefusal → Spot
array_spot array.Empty = Nowhere
array_spot (array.Ragged line) = At line
array_spot (array.Byte line) = At line
array_spot (array.TooLarge line) = At line
array_spot array.NoMemory = Nowhere

-- where a refusal of a report lies
abbrev pub report_spot : ReportRefusal → Spot
report_spot (report.Header line) = At line
report_spot (report.Inputs line) = At line
report_spot (report.Rails line) = At line
report_spot (report.Block line) = At line
report_spot (report.Grid line) = At line
report_spot (report.Proofs line) = At line
report_spot (report.Trailing line) = At line
report_spot (report.Truncated line) = At line
report_spot report.NoMemory = Nowhere

-- where a refusal of the lines of a proof lies
abbrev pub lrat_spot : LratRefusal → Spot
lrat_spot (lrat.Word line) = At line
lrat_spot (lrat.Form line) = At line
lrat_spot lrat.NoMemory = Nowhere

-- where a refusal of a journal's text lies
abbrev pub journal_spot : JournalRefusal → Spot
journal_spot (journal.Header line) = At line
journal_spot (journal.Rails line) = At line
journal_spot (journal.Word line) = At line
journal_spot (journal.Order line) = At line
journal_spot (journal.Question line) = At line
journal_spot (journal.Step line) = At line
journal_spot (journal.Block line) = At line
journal_spot (journal.Proofs line) = At line
journal_spot (journal.Trailing line) = At line
journal_spot (journal.Truncated line) = At line
journal_spot journal.NoMemory = Nowhere

-- where a journal is not right
abbrev pub audit_spot : AuditRefusal → Spot
audit_spot (audit.Output line) = At line
audit_spot (audit.Literal line) = At line
audit_spot (audit.Wrong line assign) = AssignmentAt line assign
audit_spot (audit.Step line f) = At line
audit_spot (audit.Unfinished line) = At line
audit_spot (audit.Count line) = At line
audit_spot (audit.Uncovered line) = At line
audit_spot (audit.NoSection line) = At line
audit_spot (audit.Large line) = At line
audit_spot (audit.NoRails line) = At line
audit_spot (audit.Proofs line) = At line
audit_spot audit.NoMemory = Nowhere

abbrev pub input_name : InputRefusal → List ℕ
input_name (Pla r) = pla_name r
input_name NoSuchOutput = codes "NoSuchOutput"
input_name (Cnf r) = cnf_name r
input_name (Array r) = array_name r

abbrev pub input_spot : InputRefusal → Spot
input_spot (Pla r) = pla_spot r
input_spot NoSuchOutput = Nowhere
input_spot (Cnf r) = cnf_spot r
input_spot (Array r) = array_spot r

abbrev pub side_name : SideRefusal → List ℕ
side_name TooLong = codes "TooLong"
side_name (Report r) = report_name r
side_name (Lrat r) = lrat_name r
side_name (Journal r) = journal_name r

abbrev pub side_spot : SideRefusal → Spot
side_spot TooLong = Nowhere
side_spot (Report r) = report_spot r
side_spot (Lrat r) = lrat_spot r
side_spot (Journal r) = journal_spot r

abbrev pub unconfirmed_name : Unconfirmed → List ℕ
unconfirmed_name (Denied r) = verify_name r
unconfirmed_name (Step f line) = step_name f
unconfirmed_name (Unfinished line) = codes "Unfinished"
unconfirmed_name (Unaudited r) = audit_name r

abbrev pub unconfirmed_spot : Unconfirmed → Spot
unconfirmed_spot (Denied r) = verify_spot r
unconfirmed_spot (Step f line) = At line
unconfirmed_spot (Unfinished line) = At line
unconfirmed_spot (Unaudited r) = audit_spot r

-- what the line of notes begins with
abbrev pub lead_of : Refusal → List ℕ
lead_of refusal.Words = codes "words refused"
lead_of (refusal.Input r) = codes "input refused: "
lead_of (refusal.Side r) = codes "side refused: "
lead_of (refusal.Unconfirmed r) = codes "not confirmed: "

-- the name of what is refused
abbrev pub refusal_name : Refusal → List ℕ
refusal_name refusal.Words = []
refusal_name (refusal.Input r) = input_name r
refusal_name (refusal.Side r) = side_name r
refusal_name (refusal.Unconfirmed r) = unconfirmed_name r

-- where what is refused lies
abbrev pub refusal_spot : Refusal → Spot
refusal_spot refusal.Words = Nowhere
refusal_spot (refusal.Input r) = input_spot r
refusal_spot (refusal.Side r) = side_spot r
refusal_spot (refusal.Unconfirmed r) = unconfirmed_spot r

-- the place, and the end of the line
abbrev pub spot_text : Spot → List ℕ
spot_text Nowhere = codes "\n"
spot_text (At line) = codes " at line " ++ (decimal line ++ codes "\n")
spot_text (AssignmentAt line assign) = codes " at line " ++ (decimal line ++ (codes " assignment " ++ (decimal assign ++ codes "\n")))
spot_text (AssignmentOf output assign) = codes " output " ++ (decimal output ++ (codes " assignment " ++ (decimal assign ++ codes "\n")))

-- the lead, the name and the place, each where there is one
abbrev pub said : List ℕ → List ℕ → Spot → List ℕ
said lead name spot = lead ++ (name ++ spot_text spot)

-- the line of notes: none where the work was done
abbrev pub note_text : Ending → List ℕ
note_text Done = []
note_text Undecided = []
note_text (Refused r) = said (lead_of r) (refusal_name r) (refusal_spot r)
note_text ReadFault = codes "read fault\n"
note_text WriteFault = codes "write fault\n"
note_text NoMemory = codes "want of memory\n"
