-- What a task writes, and what stands of it where it broke off.
use Rattle.std.specs.Prelude.{◌≡◌, ℕ, Bool, false, List, [], ◌++◌, length, codes, None, Some}
use Rattle.std.specs.declared.option.Option.{Option}
use Rattle.std.specs.Fmt.{decimal}
use Rattle.clause_core.specs.Cnf.{cnf_text}
use Rattle.cube_core.specs.Function.{Function}
use Rattle.lattice_grid.specs.Rectangle.{Size}
use Rattle.reach_encoding.specs.Encoding.{Question, encoding}
use Rattle.report_text.specs.Report.{ReportParts, report_text}
use Rattle.journal_text.specs.Parts.{JournalParts}
use Rattle.four_lattice.specs.Judge.{Task, Lattices, Encoding, Realised, Refuted, Confirmed, Minima, Placed, Renewed, Tried}
use Rattle.journal_text.specs.Text.{journal_text}
use Rattle.audit_core.specs.Renewed.{IsRenewed}
use Rattle.pla_reader.specs.Parts.{Parts}
use Rattle.four_lattice.specs.Lattices.{report_by}
use Rattle.four_lattice.specs.Synth.{Least, OnArray, IsFront, answers_of, AreAnswers, BeginAnswers}
use Rattle.four_lattice.specs.Trial.{AreTried, BeginTried}
use Rattle.four_lattice.specs.Verified.{IsVerified}

-- what the standard output and the journal got, where the journal tells, and whether an answer in it is undecided
pub record Written : Type 0 where
  pub out : List ℕ
  pub journal : Option (List ℕ)
  pub undecided : Bool

-- how many blocks of a report are right
abbrev pub realised_text : ReportParts → List ℕ
realised_text report = codes "realised " ++ (decimal (length report.blocks) ++ codes "\n")

-- how many answers of a journal are right
abbrev pub confirmed_text : JournalParts → List ℕ
confirmed_text journal = codes "confirmed " ++ (decimal (length (answers_of journal.parts)) ++ codes "\n")

-- what is asked of a size and a function, on no array, with all literals allowed
abbrev pub question_of : Size → Function → Question
question_of size f = record { function = f; rails = 1048575; size = size; array = None }

-- This text alone is written.
pub record Says (text : List ℕ) (w : Written) : Type 0 where
  pub out : w.out ≡ text
  pub journal : w.journal ≡ Some []
  pub undecided : w.undecided ≡ false

-- A front of this text alone is written.
pub record SaysFront (text out : List ℕ) (journal : Option (List ℕ)) : Type 0 where
  pub front : IsFront out text
  pub none : journal ≡ Some []

-- The text of a journal made anew is written.
pub record SaysAnew (parts : Parts) (old : JournalParts) (w : Written) : Type 0 where
  pub new : JournalParts
  pub renewed : IsRenewed parts old new
  pub says : Says (journal_text new) w

-- A front of it alone is written.
pub record SaysAnewFront (parts : Parts) (old : JournalParts) (out : List ℕ) (journal : Option (List ℕ)) : Type 0 where
  pub new : JournalParts
  pub renewed : IsRenewed parts old new
  pub says : SaysFront (journal_text new) out journal

-- What a task writes, whole. Each lattice of a report of `pairs` or `dual` realises its output.
abbrev pub Does : Task → Written → Type 0
Does (Lattices how output parts) w = Says (report_text (report_by how output parts)) w × IsVerified parts (report_by how output parts)
Does (Encoding size f) w = Says (cnf_text (encoding (question_of size f))) w
Does (Realised report) w = Says (realised_text report) w
Does Refuted w = Says (codes "verified\n") w
Does (Confirmed journal) w = Says (confirmed_text journal) w
Does (Renewed parts journal) w = SaysAnew parts journal w
Does (Minima rails budget output parts) w = AreAnswers Least rails budget output parts w.out w.journal w.undecided
Does (Placed budget output a parts) w = AreAnswers (OnArray a) 1048575 budget (Some output) parts w.out w.journal w.undecided
Does (Tried number budget parts) w = AreTried number budget parts w.out w.journal w.undecided

-- What stands of it where it broke off.
abbrev pub Begins : Task → List ℕ → Option (List ℕ) → Type 0
Begins (Lattices how output parts) out journal = SaysFront (report_text (report_by how output parts)) out journal × IsVerified parts (report_by how output parts)
Begins (Encoding size f) out journal = SaysFront (cnf_text (encoding (question_of size f))) out journal
Begins (Realised report) out journal = SaysFront (realised_text report) out journal
Begins Refuted out journal = SaysFront (codes "verified\n") out journal
Begins (Confirmed audited) out journal = SaysFront (confirmed_text audited) out journal
Begins (Renewed parts audited) out journal = SaysAnewFront parts audited out journal
Begins (Minima rails budget output parts) out journal = BeginAnswers Least rails budget output parts out journal
Begins (Placed budget output a parts) out journal = BeginAnswers (OnArray a) 1048575 budget (Some output) parts out journal
Begins (Tried number budget parts) out journal = BeginTried number budget parts out journal
