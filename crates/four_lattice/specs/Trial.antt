-- What `trial` writes: the report and the journal of the least lattices of a PLA that a number makes, and a line that sums them up.
use Rattle.std.specs.Prelude.{◌≡◌, ◌⊎◌, ℕ, Bool, true, false, List, ◌++◌, codes, count_by, map, IfSome, None}
use Rattle.std.specs.declared.option.Option.{Option}
use Rattle.std.specs.Fmt.{decimal}
use Rattle.std.specs.List.{sum_by}
use Rattle.journal_text.specs.Bounds.{IsJournal}
use Rattle.journal_text.specs.Kept.{capped, steps_in}
use Rattle.journal_text.specs.Least.{area}
use Rattle.journal_text.specs.Parts.{JournalParts}
use Rattle.journal_text.specs.Text.{journal_text}
use Rattle.pla_reader.specs.Parts.{Parts}
use Rattle.report_text.specs.Report.{BlockParts, ReportParts}
use Rattle.report_text.specs.declared.answer.Answer.{Answer}
use Rattle.report_text.specs.declared.answer.Answer.TheVariants.{Found, Minimum, Undecided, Mapped, NoneMapped, MapUndecided, NoRails}
use Rattle.four_lattice.specs.Synth.{Least, IsFront, AreAnswers, BeginAnswers, is_undecided}
use Rattle.four_lattice.specs.declared.tally.Tally.{Tally}

abbrev pub is_minimum : Answer → Bool
is_minimum (Found g) = false
is_minimum (Minimum g) = true
is_minimum (Undecided g least at after) = false
is_minimum (Mapped g a) = false
is_minimum (NoneMapped a) = false
is_minimum (MapUndecided a after) = false
is_minimum (NoRails on off) = false

-- how many cells the lattice of an answer has, where it has one
abbrev pub cells_of : Answer → ℕ
cells_of (Found g) = area g
cells_of (Minimum g) = area g
cells_of (Undecided g least at after) = area g
cells_of (Mapped g a) = area g
cells_of (NoneMapped a) = 0
cells_of (MapUndecided a after) = 0
cells_of (NoRails on off) = 0

-- how many answers are minima and how many are undecided, and how many cells their lattices have together
abbrev pub tally_of : List Answer → Tally
tally_of answers = record { minimum = count_by is_minimum answers; undecided = count_by is_undecided answers; area = sum_by cells_of answers }

abbrev pub answers_in : List BlockParts → List Answer
answers_in blocks = map (λ block. block.answer) blocks

-- the line: the number, its sixteen outputs, the tally of their answers, and the steps
abbrev pub summary_text : ℕ → Tally → ℕ → List ℕ
summary_text number t steps =
    codes "trial " ++ (decimal number ++ (codes " outputs 16 minimum " ++ (decimal t.minimum ++ (codes " undecided " ++ (decimal t.undecided
    ++ (codes " area " ++ (decimal t.area ++ (codes " steps " ++ (decimal steps ++ codes "\n")))))))))

-- The bytes are a journal with so many step lines, or with more than the greatest `u64`, which then is the number.
pub record HasSteps (steps : ℕ) (bytes : List ℕ) : Type 0 where
  pub journal : JournalParts
  pub bounds : IsJournal journal
  pub text : bytes ≡ journal_text journal
  pub count : steps ≡ capped (steps_in journal.parts)

-- The line sums up the answers of a report and, where the journal tells, its steps.
pub record SumsUp (number : ℕ) (report : ReportParts) (journal : Option (List ℕ)) (line : List ℕ) : Type 0 where
  pub steps : ℕ
  pub counted : IfSome journal (HasSteps steps)
  pub text : line ≡ summary_text number (tally_of (answers_in report.blocks)) steps

-- The standard output got a report of all outputs over all literals, as `synth` writes it, and a line that sums it up; and the journal what `synth` writes.
pub record AreTried (number budget : ℕ) (parts : Parts) (out : List ℕ) (journal : Option (List ℕ)) (undecided : Bool) : Type 0 where
  pub report : List ℕ
  pub line : List ℕ
  pub answers : AreAnswers Least 1048575 budget None parts report journal undecided
  pub summary : SumsUp number answers.report journal line
  pub text : out ≡ report ++ line

-- All but the line was written, and of that a front.
pub record BeginLine (number budget : ℕ) (parts : Parts) (out : List ℕ) (journal : Option (List ℕ)) : Type 0 where
  pub report : List ℕ
  pub front : List ℕ
  pub line : List ℕ
  pub undecided : Bool
  pub answers : AreAnswers Least 1048575 budget None parts report journal undecided
  pub summary : SumsUp number answers.report journal line
  pub is_front : IsFront front line
  pub text : out ≡ report ++ front

-- What stands of it: of the report and the journal as of those of `synth`; or these whole, and a front of the line.
abbrev pub BeginTried : (number budget : ℕ) → Parts → List ℕ → Option (List ℕ) → Type 0
BeginTried number budget parts out journal = BeginAnswers Least 1048575 budget None parts out journal ⊎ BeginLine number budget parts out journal
