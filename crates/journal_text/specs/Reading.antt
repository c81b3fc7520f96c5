-- What reading gives.
use Rattle.std.specs.Prelude.{◌≡◌, ◌≢◌, ◌⊎◌, ℕ, ◌+◌, ◌<◌, ◌≤◌, ◌==◌, cond, List, [], ◌∷◌, ◌++◌, ⊤, All, length, slice_index, codes, Result, Ok, Err}
use Rattle.std.specs.Fmt.{decimal}
use Rattle.lattice_grid.specs.Rectangle.{Size, IsSize}
use Rattle.lrat_replay.specs.declared.line.Step.{Step}
use Rattle.lrat_replay.specs.StepRead.{IsLineOf}
use Rattle.pla_reader.specs.Name.{IsName}
use Rattle.report_text.specs.Pieces.{Without, Cuts, words, feeds}
use Rattle.report_text.specs.Reading.{IsBlockFault}
use Rattle.report_text.specs.Report.{heading_words}
use Rattle.report_text.specs.declared.answer.Version.{Version}
use Rattle.report_text.specs.declared.answer.Version.TheVariants.{One, Two}
use Rattle.report_text.specs.declared.block.BlockFault.{BlockFault}
use Rattle.report_text.specs.declared.block.BlockFault.TheVariants as faults
use Rattle.report_text.specs.declared.form.Form.TheVariants.{Found}
use Rattle.journal_text.specs.Bounds.{IsTarget, IsClose, IsWritten, IsJournal}
use Rattle.journal_text.specs.Parts.{JournalParts, part_of, parts_of_journal}
use Rattle.journal_text.specs.Text.{front_text, question_text, steps_text, close_text, head_text, part_text, journal_text}
use Rattle.journal_text.specs.declared.journal.Journal.{Journal}
use Rattle.journal_text.specs.declared.journal.Part.{Part as PartRead}
use Rattle.journal_text.specs.declared.journal.PartKind.{PartKind}
use Rattle.journal_text.specs.declared.journal.PartKind.TheVariants.{Question as QuestionRead, Answer}
use Rattle.journal_text.specs.declared.journal.StepLine.{StepLine}
use Rattle.journal_text.specs.declared.refusal.JournalRefusal.{JournalRefusal}
use Rattle.journal_text.specs.declared.refusal.JournalRefusal.TheVariants.{Header, Rails, Word, Order, Question, Step as BadStep, Block, Proofs, Trailing, Truncated, NoMemory}
use Rattle.journal_text.specs.declared.target.Close.{Close}
use Rattle.journal_text.specs.declared.target.Target.{Target}

-- ---- first words

-- the bytes up to the first blank
abbrev pub first_word : List ℕ → List ℕ
first_word [] = []
first_word (b ∷ line) = cond (b == 32) [] (b ∷ first_word line)

-- decimal digits, and no leading zero but in 0 itself
pub record IsNumber (word : List ℕ) : Type 0 where
  pub some : 0 < length word
  pub digits : All (λ b. (48 ≤ b) × (b ≤ 57)) word
  pub lead : slice_index word 0 ≡ 48 → length word ≡ 1

-- the words that begin a line outside of sections
abbrev pub IsOpening : List ℕ → Type 0
IsOpening word = (word ≡ codes "question") ⊎ ((word ≡ codes "output") ⊎ (word ≡ codes "end"))

-- the words that begin the last line of a section
abbrev pub IsClosing : List ℕ → Type 0
IsClosing word = (word ≡ codes "refuted") ⊎ ((word ≡ codes "spent") ⊎ (word ≡ codes "satisfied"))

abbrev pub IsUnknown : List ℕ → Type 0
IsUnknown word = (IsOpening word → ⊥) × (IsClosing word → ⊥) × (IsNumber word → ⊥)

-- ---- lines that have their form

abbrev pub title_text : Version → List ℕ
title_text One = codes "lattice journal 1\n"
title_text Two = codes "lattice journal 2\n"

abbrev pub IsTitleLine : List ℕ → Type 0
IsTitleLine line = (version : Version) × (title_text version ≡ line ++ 10 ∷ [])

abbrev pub rails_text : ℕ → List ℕ
rails_text rails = codes "rails " ++ (decimal rails ++ codes "\n")

abbrev pub IsRailsLine : List ℕ → Type 0
IsRailsLine line = (rails : ℕ) × (rails ≤ 1048575) × (rails_text rails ≡ line ++ 10 ∷ [])

abbrev pub IsQuestionLine : List ℕ → Type 0
IsQuestionLine line = (output : ℕ) × (target : Target) × (output ≤ 63) × IsTarget target × (question_text output target ≡ line ++ 10 ∷ [])

abbrev pub IsClosingLine : List ℕ → Type 0
IsClosingLine line = (close : Close) × IsClose close × (close_text close ≡ line ++ 10 ∷ [])

-- the line of a step whose hints are above 0
abbrev pub IsStepLine : List ℕ → Type 0
IsStepLine line = (step : Step) × IsWritten step × IsLineOf line step

-- the line is the first of a block that tells of a lattice that was found
pub record TellsFound (line : List ℕ) : Type 0 where
  pub output : ℕ
  pub name : List ℕ
  pub size : Size
  pub few : output ≤ 63
  pub is_name : IsName name
  pub is_size : IsSize size
  pub words_are : words line ≡ heading_words (record { output = output; name = name; form = Found size })

-- ---- where a text goes on

-- at its first line; at the line of the rails; behind whole parts of a journal; behind these, and a question and steps of its section
pub data Place : Type 0 where
  AtTitle : Place
  AtRails : Place
  Outside : JournalParts → Place
  Inside : JournalParts → ℕ → Target → List Step → Place

abbrev pub before : Place → List ℕ
before AtTitle = []
before AtRails = codes "lattice journal 2\n"
before (Outside j) = front_text j.version j.rails j.parts
before (Inside j output target steps) = front_text j.version j.rails j.parts ++ (question_text output target ++ steps_text steps)

abbrev pub IsPlace : Place → Type 0
IsPlace AtTitle = ⊤
IsPlace AtRails = ⊤
IsPlace (Outside j) = IsJournal j
IsPlace (Inside j output target steps) = IsJournal j × (output ≤ 63) × IsTarget target × All IsWritten steps

-- what must come there: the title; the rails; a part or the last line; a step of a section or its closing line
pub data Next : Type 0 where
  Title : Next
  RailsLine : Next
  PartOrEnd : Version → Next
  StepOrClose : Version → Next

abbrev pub next_at : Place → Next
next_at AtTitle = Title
next_at AtRails = RailsLine
next_at (Outside j) = PartOrEnd j.version
next_at (Inside j output target steps) = StepOrClose j.version

-- ---- what is wrong with a line where this must come

abbrev pub IsBadTitle : Next → List ℕ → Type 0
IsBadTitle Title line = IsTitleLine line → ⊥
IsBadTitle RailsLine line = ⊥
IsBadTitle (PartOrEnd version) line = ⊥
IsBadTitle (StepOrClose version) line = ⊥

abbrev pub AreBadRails : Next → List ℕ → Type 0
AreBadRails Title line = ⊥
AreBadRails RailsLine line = IsRailsLine line → ⊥
AreBadRails (PartOrEnd version) line = ⊥
AreBadRails (StepOrClose version) line = ⊥

abbrev pub IsBadWord : Next → List ℕ → Type 0
IsBadWord Title line = ⊥
IsBadWord RailsLine line = ⊥
IsBadWord (PartOrEnd version) line = IsUnknown (first_word line)
IsBadWord (StepOrClose version) line = IsUnknown (first_word line)

-- a number or a closing word outside of sections, an opening word in one
abbrev pub IsAstray : Next → List ℕ → Type 0
IsAstray Title line = ⊥
IsAstray RailsLine line = ⊥
IsAstray (PartOrEnd version) line = IsNumber (first_word line) ⊎ IsClosing (first_word line)
IsAstray (StepOrClose version) line = IsOpening (first_word line)

abbrev pub IsBadQuestion : Next → List ℕ → Type 0
IsBadQuestion Title line = ⊥
IsBadQuestion RailsLine line = ⊥
IsBadQuestion (PartOrEnd version) line = ((first_word line ≡ codes "question") × (IsQuestionLine line → ⊥)) ⊎ ((first_word line ≡ codes "end") × (line ≢ codes "end"))
IsBadQuestion (StepOrClose version) line = IsClosing (first_word line) × (IsClosingLine line → ⊥)

abbrev pub IsBadStep : Next → List ℕ → Type 0
IsBadStep Title line = ⊥
IsBadStep RailsLine line = ⊥
IsBadStep (PartOrEnd version) line = ⊥
IsBadStep (StepOrClose version) line = IsNumber (first_word line) × (IsStepLine line → ⊥)

-- An answer may not tell what was found: then its first line is at fault. Else the fault is that of a block's lines.
abbrev pub IsAnswerFault : Version → List ℕ → List ℕ → ℕ → BlockFault → Type 0
IsAnswerFault version line bytes here fault = (TellsFound line × (fault ≡ faults.Block here)) ⊎ ((TellsFound line → ⊥) × IsBlockFault version bytes here fault)

abbrev pub IsBadAnswer : Next → List ℕ → ℕ → BlockFault → List ℕ → Type 0
IsBadAnswer Title bytes here fault line = ⊥
IsBadAnswer RailsLine bytes here fault line = ⊥
IsBadAnswer (PartOrEnd version) bytes here fault line = (first_word line ≡ codes "output") × IsAnswerFault version line bytes here fault
IsBadAnswer (StepOrClose version) bytes here fault line = ⊥

-- the last line stands there, and more behind it
abbrev pub HasMore : Next → List ℕ → Type 0
HasMore Title bytes = ⊥
HasMore RailsLine bytes = ⊥
HasMore (PartOrEnd version) bytes = (more : List ℕ) × (bytes ≡ codes "end\n" ++ more) × (more ≢ [])
HasMore (StepOrClose version) bytes = ⊥

-- ---- refusals

-- A line stands at the front of the bytes, and this is so of it.
abbrev pub HasLine : List ℕ → (List ℕ → Type 0) → Type 0
HasLine bytes Is = (line : List ℕ) × (rest : List ℕ) × Cuts 10 bytes line rest × Is line

-- Where this must come stand these bytes, the first of them on the line `here`; and there the text is refused so. Want of memory is never a refusal of the text.
abbrev pub Halts : Next → List ℕ → ℕ → JournalRefusal → Type 0
Halts next bytes here (Header n) = (n ≡ here) × HasLine bytes (IsBadTitle next)
Halts next bytes here (Rails n) = (n ≡ here) × HasLine bytes (AreBadRails next)
Halts next bytes here (Word n) = (n ≡ here) × HasLine bytes (IsBadWord next)
Halts next bytes here (Order n) = (n ≡ here) × HasLine bytes (IsAstray next)
Halts next bytes here (Question n) = (n ≡ here) × HasLine bytes (IsBadQuestion next)
Halts next bytes here (BadStep n) = (n ≡ here) × HasLine bytes (IsBadStep next)
Halts next bytes here (Block n) = HasLine bytes (IsBadAnswer next bytes here (faults.Block n)) ⊎ HasLine bytes (IsBadAnswer next bytes here (faults.Grid n))
Halts next bytes here (Proofs n) = HasLine bytes (IsBadAnswer next bytes here (faults.Proofs n))
Halts next bytes here (Trailing n) = (n ≡ here + 1) × HasMore next bytes
Halts next bytes here (Truncated n) = ((n ≡ here) × Without 10 bytes) ⊎ HasLine bytes (IsBadAnswer next bytes here (faults.Truncated n))
Halts next bytes here NoMemory = ⊥

-- The text is refused so: up to a place it is as a journal may be, and there it does not go on so.
pub record IsRefused (text : List ℕ) (refusal : JournalRefusal) : Type 0 where
  pub place : Place
  pub bytes : List ℕ
  pub is_place : IsPlace place
  pub text_is : text ≡ before place ++ bytes
  pub halts : Halts (next_at place) bytes (1 + feeds (before place)) refusal

-- What the text gives: the journal that it spells, or its refusal.
abbrev pub Gives : List ℕ → Result JournalParts JournalRefusal → Type 0
Gives text (Ok journal) = IsJournal journal × (text ≡ journal_text journal)
Gives text (Err refusal) = IsRefused text refusal

-- what was answered, without line numbers and without where it lies in memory
abbrev pub seen : Result Journal JournalRefusal → Result JournalParts JournalRefusal
seen (Ok journal) = Ok (parts_of_journal journal)
seen (Err refusal) = Err refusal

-- ---- numbers of lines

-- the steps stand on lines one after another, from this one on
abbrev pub AreNumbered : ℕ → List StepLine → Type 0
AreNumbered here [] = ⊤
AreNumbered here (s ∷ steps) = (s.line ≡ here) × AreNumbered (here + 1) steps

-- the lines behind the first one have the numbers from this one on
abbrev pub IsNumbered : ℕ → PartKind → Type 0
IsNumbered here (QuestionRead s) = AreNumbered here s.steps.items × (s.close_line ≡ here + length s.steps.items)
IsNumbered here (Answer block) = ⊤

-- each part begins on the line behind those of the part before it, the first one on this line
abbrev pub AreLined : Version → ℕ → List PartRead → Type 0
AreLined version here [] = ⊤
AreLined version here (p ∷ parts) = (p.line ≡ here) × IsNumbered (here + 1) p.what × AreLined version (here + feeds (part_text version (part_of p))) parts

-- the numbers of a journal are those of the lines of its text
abbrev pub HasLineNumbers : Journal → Type 0
HasLineNumbers journal = AreLined journal.version (1 + feeds (head_text journal.version journal.rails)) journal.parts.items
