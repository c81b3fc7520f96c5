-- What a journal may say.
use Rattle.std.specs.Prelude.{◌*◌, ◌≤◌, All, ⊤}
use Rattle.lattice_grid.specs.Defects.{IsArray}
use Rattle.lattice_grid.specs.Rectangle.{IsSize}
use Rattle.lrat_replay.specs.Ledger.{IsAbove0}
use Rattle.lrat_replay.specs.StepRead.{IsStep}
use Rattle.lrat_replay.specs.declared.line.Step.{Step}
use Rattle.report_text.specs.Bounds.{IsBlock, AreRails}
use Rattle.report_text.specs.declared.answer.Answer.{Answer}
use Rattle.report_text.specs.declared.answer.Answer.TheVariants.{Found, Minimum, Undecided, Mapped, NoneMapped, MapUndecided, NoRails}
use Rattle.report_text.specs.declared.answer.Version.{Version}
use Rattle.journal_text.specs.declared.target.Close.{Close}
use Rattle.journal_text.specs.declared.target.Close.TheVariants.{Refuted, Spent, Satisfied}
use Rattle.journal_text.specs.declared.target.Target.{Target}
use Rattle.journal_text.specs.declared.target.Target.TheVariants.{Whole, Marked}
use Rattle.journal_text.specs.Parts.{Section, Part, Question, Answered, JournalParts}

-- on no array a question asks for at most 32,768 cells
abbrev pub IsTarget : Target → Type 0
IsTarget (Whole s) = IsSize s × (s.rows * s.cols ≤ 32768)
IsTarget (Marked a) = IsArray a

abbrev pub IsClose : Close → Type 0
IsClose Refuted = ⊤
IsClose (Spent budget) = budget ≤ 200000
IsClose Satisfied = ⊤

-- a step that can be written, and whose hints are above 0
pub record IsWritten (step : Step) : Type 0 where
  pub is_step : IsStep step
  pub positive : All IsAbove0 step.hints

pub record IsAsked (s : Section) : Type 0 where
  pub output : s.output ≤ 63
  pub target : IsTarget s.target
  pub steps : All IsWritten s.steps
  pub close : IsClose s.close

-- an answer that is not `found` may stand in a journal
abbrev pub MayStand : Answer → Type 0
MayStand (Found g) = ⊥
MayStand (Minimum g) = ⊤
MayStand (Undecided g least at after) = ⊤
MayStand (Mapped g a) = ⊤
MayStand (NoneMapped a) = ⊤
MayStand (MapUndecided a after) = ⊤
MayStand (NoRails on off) = ⊤

abbrev pub IsPart : Version → Part → Type 0
IsPart version (Question s) = IsAsked s
IsPart version (Answered block) = IsBlock version block × MayStand block.answer

pub record IsJournal (journal : JournalParts) : Type 0 where
  pub rails : AreRails journal.version journal.rails
  pub parts : All (IsPart journal.version) journal.parts
