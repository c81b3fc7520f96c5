-- What the private parts of reading say.
use Rattle.std.specs.Prelude.{◌≡◌, ◌≢◌, ℕ, ◌+◌, ◌≤◌, List, [], ◌∷◌, ◌++◌, All, length, map, codes}
use Rattle.std.specs.Fmt.{decimal}
use Rattle.lrat_replay.specs.LratText.{step_text}
use Rattle.lrat_replay.specs.StepRead.{IsLineOf}
use Rattle.report_text.specs.Cells.{size_text, array_text}
use Rattle.report_text.specs.Pieces.{Cuts, words, feeds}
use Rattle.report_text.specs.declared.answer.Version.{Version}
use Rattle.report_text.specs.declared.answer.Version.TheVariants as versions
use Rattle.report_text.specs.declared.block.BlockFault.{BlockFault}
use Rattle.report_text.specs.declared.block.BlockFault.TheVariants as faults
use Rattle.journal_text.specs.Bounds.{IsTarget, IsClose, IsWritten, IsPart, IsJournal}
use Rattle.journal_text.specs.Parts.{JournalParts, part_of}
use Rattle.journal_text.specs.Reading.{IsClosing, IsNumber, IsUnknown, Halts, IsRefused, before, AreNumbered, IsNumbered, AreLined}
use Rattle.journal_text.specs.Reading.Next.{StepOrClose}
use Rattle.journal_text.specs.Reading.Place.{Outside, Inside}
use Rattle.journal_text.specs.Text.{steps_text, close_text, part_text, parts_text}
use Rattle.journal_text.specs.declared.journal.Part.{Part as PartRead}
use Rattle.journal_text.specs.declared.journal.StepLine.{StepLine}
use Rattle.journal_text.specs.declared.lead.Lead.{Lead}
use Rattle.journal_text.specs.declared.lead.Lead.TheVariants as leads
use Rattle.journal_text.specs.declared.read.Ahead.{Ahead}
use Rattle.journal_text.specs.declared.read.Ahead.TheVariants as ahead
use Rattle.journal_text.specs.declared.read.Inner.{Inner}
use Rattle.journal_text.specs.declared.read.Inner.TheVariants as inner
use Rattle.journal_text.specs.declared.refusal.JournalRefusal.{JournalRefusal}
use Rattle.journal_text.specs.declared.refusal.JournalRefusal.TheVariants as refusals
use Rattle.journal_text.specs.declared.target.Close.{Close}
use Rattle.journal_text.specs.declared.target.Close.TheVariants.{Refuted, Spent, Satisfied}
use Rattle.journal_text.specs.declared.target.Target.{Target}
use Rattle.journal_text.specs.declared.target.Target.TheVariants.{Whole, Marked}

-- what a first word says
abbrev pub IsLead : Lead → List ℕ → Type 0
IsLead leads.Question word = word ≡ codes "question"
IsLead leads.Closing word = IsClosing word
IsLead leads.Output word = word ≡ codes "output"
IsLead leads.End word = word ≡ codes "end"
IsLead leads.Number word = IsNumber word
IsLead leads.Unknown word = IsUnknown word

-- ---- lines as words

abbrev pub target_words : Target → List (List ℕ)
target_words (Whole s) = size_text s ∷ []
target_words (Marked a) = size_text a.size ∷ array_text a ∷ []

abbrev pub question_words : ℕ → Target → List (List ℕ)
question_words output target = codes "question" ∷ decimal output ∷ target_words target

abbrev pub close_words : Close → List (List ℕ)
close_words Refuted = codes "refuted" ∷ []
close_words (Spent budget) = codes "spent" ∷ decimal budget ∷ []
close_words Satisfied = codes "satisfied" ∷ []

-- the fourth word is `found`
abbrev pub SaysFound : List ℕ → Type 0
SaysFound line = (a : List ℕ) × (b : List ℕ) × (c : List ℕ) × (ws : List (List ℕ)) × (words line ≡ a ∷ b ∷ c ∷ codes "found" ∷ ws)

-- ---- lines in a section

-- the line is this step's, or closes so
abbrev pub InnerSo : Inner → List ℕ → Type 0
InnerSo (inner.Step step) line = IsWritten step × IsLineOf line step
InnerSo (inner.Close close) line = IsClose close × (close_text close ≡ line ++ 10 ∷ [])

-- wherever this line stands in a section, it is refused so
abbrev pub HaltsInside : List ℕ → ℕ → JournalRefusal → Type 0
HaltsInside line here refusal = (version : Version) (bytes rest : List ℕ) → Cuts 10 bytes line rest → Halts (StepOrClose version) bytes here refusal

-- whatever question stands before these bytes, the first of them on this line, the text is refused so
abbrev pub IsRefusedInside : List ℕ → ℕ → JournalRefusal → Type 0
IsRefusedInside bytes here refusal =
    (j : JournalParts) (output : ℕ) (target : Target) → IsJournal j → output ≤ 63 → IsTarget target → here ≡ 1 + feeds (before (Inside j output target [])) → IsRefused (before (Inside j output target []) ++ bytes) refusal

-- steps, each on its line, and the closing line, on this one
pub record HasSteps (bytes : List ℕ) (first : ℕ) (steps : List StepLine) (close : Close) (close_line : ℕ) (rest : List ℕ) : Type 0 where
  pub written : All IsWritten (map (λ l. l.step) steps)
  pub is_close : IsClose close
  pub text : bytes ≡ steps_text (map (λ l. l.step) steps) ++ (close_text close ++ rest)
  pub numbered : AreNumbered first steps
  pub close_is : close_line ≡ first + length steps

-- ---- parts

-- the refusal where the lines of an answer have this fault
abbrev pub refusal_for : BlockFault → JournalRefusal
refusal_for (faults.Block n) = refusals.Block n
refusal_for (faults.Grid n) = refusals.Block n
refusal_for (faults.Proofs n) = refusals.Proofs n
refusal_for (faults.Truncated n) = refusals.Truncated n
refusal_for faults.NoMemory = refusals.NoMemory

-- whatever parts stand before these bytes, the first of them on this line, the text is refused so, unless memory was wanting
abbrev pub IsRefusedBehind : Version → List ℕ → ℕ → JournalRefusal → Type 0
IsRefusedBehind version bytes here refusal =
    refusal ≢ refusals.NoMemory → (j : JournalParts) → IsJournal j → j.version ≡ version → here ≡ 1 + feeds (before (Outside j)) → IsRefused (before (Outside j) ++ bytes) refusal

-- the part stands at the front of the bytes, on this line, and the bytes behind it on this one
pub record IsPartAt (version : Version) (here : ℕ) (bytes : List ℕ) (part : PartRead) (rest : List ℕ) (next : ℕ) : Type 0 where
  pub is_part : IsPart version (part_of part)
  pub text : bytes ≡ part_text version (part_of part) ++ rest
  pub line_is : part.line ≡ here
  pub numbered : IsNumbered (here + 1) part.what
  pub next_is : next ≡ here + feeds (part_text version (part_of part))

abbrev pub IsAhead : Version → ℕ → List ℕ → Ahead → Type 0
IsAhead version here bytes (ahead.End rest) = bytes ≡ codes "end\n" ++ rest.now
IsAhead version here bytes (ahead.Part part rest next) = IsPartAt version here bytes part rest.now next

-- parts and the last line, and nothing else
pub record AreParts (version : Version) (first : ℕ) (bytes : List ℕ) (parts : List PartRead) : Type 0 where
  pub each : All (IsPart version) (map part_of parts)
  pub text : bytes ≡ parts_text version (map part_of parts) ++ codes "end\n"
  pub lined : AreLined version first parts

-- the number of the line behind the head
abbrev pub first_number : Version → ℕ
first_number versions.One = 2
first_number versions.Two = 3

-- ---- lines that are written

-- the line of a step, without its number
abbrev pub line_text : StepLine → List ℕ
line_text l = step_text l.step.id l.step.clause l.step.hints
