-- A journal as a value: questions with the steps that were written for them, and answers.
use Rattle.std.specs.Prelude.{ℕ, List, map, None, Some}
use Rattle.std.specs.declared.option.Option.{Option}
use Rattle.lattice_grid.specs.Defects.{Defects}
use Rattle.lattice_grid.specs.Rectangle.{Size}
use Rattle.lrat_replay.specs.declared.line.Step.{Step}
use Rattle.report_text.specs.Report.{BlockParts, parts_of_block}
use Rattle.report_text.specs.declared.answer.Version.{Version}
use Rattle.journal_text.specs.declared.journal.Journal.{Journal}
use Rattle.journal_text.specs.declared.journal.Part.{Part as PartRead}
use Rattle.journal_text.specs.declared.journal.PartKind.{PartKind}
use Rattle.journal_text.specs.declared.journal.PartKind.TheVariants as kinds
use Rattle.journal_text.specs.declared.journal.SectionText.{SectionText}
use Rattle.journal_text.specs.declared.target.Target.{Target}
use Rattle.journal_text.specs.declared.target.Target.TheVariants.{Whole, Marked}
use Rattle.journal_text.specs.declared.target.Close.{Close}

-- a question of an output: the steps with their hints, in order, and how it closed
pub record Section : Type 0 where
  pub output : ℕ
  pub target : Target
  pub steps : List Step
  pub close : Close

-- a question, or the answer for an output
pub data Part : Type 0 where
  Question : Section → Part
  Answered : BlockParts → Part

pub record JournalParts : Type 0 where
  pub version : Version
  pub rails : ℕ
  pub parts : List Part

-- the size that is asked for, and the array, where there is one
abbrev pub size_of : Target → Size
size_of (Whole s) = s
size_of (Marked a) = a.size

abbrev pub array_of : Target → Option Defects
array_of (Whole s) = None
array_of (Marked a) = Some a

-- ---- what is read, without line numbers and without where it lies in memory

abbrev pub section_of : SectionText → Section
section_of s = record { output = s.output; target = s.target; steps = map (λ l. l.step) s.steps.items; close = s.close }

abbrev pub kind_of : PartKind → Part
kind_of (kinds.Question s) = Question (section_of s)
kind_of (kinds.Answer block) = Answered (parts_of_block block)

abbrev pub part_of : PartRead → Part
part_of p = kind_of p.what

abbrev pub parts_of_journal : Journal → JournalParts
parts_of_journal journal = record { version = journal.version; rails = journal.rails; parts = map part_of journal.parts.items }
