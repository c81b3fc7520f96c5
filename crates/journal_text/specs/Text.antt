-- The text of a journal.
use Rattle.std.specs.Prelude.{ℕ, List, ◌++◌, codes}
use Rattle.std.specs.List.{flat_map}
use Rattle.std.specs.Fmt.{decimal}
use Rattle.lrat_replay.specs.declared.line.Step.{Step}
use Rattle.lrat_replay.specs.LratText.{step_text}
use Rattle.report_text.specs.Cells.{size_text, array_text}
use Rattle.report_text.specs.Report.{block_text}
use Rattle.report_text.specs.declared.answer.Version.{Version}
use Rattle.report_text.specs.declared.answer.Version.TheVariants.{One, Two}
use Rattle.journal_text.specs.declared.target.Target.{Target}
use Rattle.journal_text.specs.declared.target.Target.TheVariants.{Whole, Marked}
use Rattle.journal_text.specs.declared.target.Close.{Close}
use Rattle.journal_text.specs.declared.target.Close.TheVariants.{Refuted, Spent, Satisfied}
use Rattle.journal_text.specs.Parts.{Section, Part, Question, Answered, JournalParts}

-- the lines before the parts
unfoldable pub head_text : Version → ℕ → List ℕ
head_text One rails = codes "lattice journal 1\n"
head_text Two rails = codes "lattice journal 2\nrails " ++ (decimal rails ++ codes "\n")

-- a size, and the rows of an array where one is asked for
abbrev pub target_text : Target → List ℕ
target_text (Whole s) = size_text s
target_text (Marked a) = size_text a.size ++ (codes " " ++ array_text a)

-- the first line of a section
unfoldable pub question_text : ℕ → Target → List ℕ
question_text output target = codes "question " ++ (decimal output ++ (codes " " ++ (target_text target ++ codes "\n")))

-- a line for each step
abbrev pub steps_text : List Step → List ℕ
steps_text steps = flat_map (λ step. step_text step.id step.clause step.hints) steps

-- the last line of a section
abbrev pub close_text : Close → List ℕ
close_text Refuted = codes "refuted\n"
close_text (Spent budget) = codes "spent " ++ (decimal budget ++ codes "\n")
close_text Satisfied = codes "satisfied\n"

unfoldable pub section_text : Section → List ℕ
section_text s = question_text s.output s.target ++ (steps_text s.steps ++ close_text s.close)

abbrev pub part_text : Version → Part → List ℕ
part_text version (Question s) = section_text s
part_text version (Answered block) = block_text version block

abbrev pub parts_text : Version → List Part → List ℕ
parts_text version parts = flat_map (part_text version) parts

-- what stands before the last line
unfoldable pub front_text : Version → ℕ → List Part → List ℕ
front_text version rails parts = head_text version rails ++ parts_text version parts

unfoldable pub journal_text : JournalParts → List ℕ
journal_text journal = front_text journal.version journal.rails journal.parts ++ codes "end\n"
