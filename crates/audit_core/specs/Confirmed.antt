-- What an audited journal confirms.
use Rattle.std.specs.Prelude.{◌≡◌, ℕ, suc, List, [], ◌∷◌, ◌++◌}
use Rattle.cube_core.specs.Function.{Function}
use Rattle.std.specs.Prelude.{slice_get, Some}
use Rattle.pla_reader.specs.Parts.{Parts, IsPla}
use Rattle.report_text.specs.Report.{BlockParts}
use Rattle.journal_text.specs.Bounds.{IsJournal}
use Rattle.journal_text.specs.Good.{Good}
use Rattle.journal_text.specs.Parts.{Part, Question, Answered, JournalParts}
use Rattle.audit_core.specs.Audit.{Audited}
use Rattle.audit_core.specs.declared.audit.Confirmed.{Confirmed}

-- the answers among the parts, the first of which stands at this place: the output of each, and its place
abbrev pub confirmed_from : ℕ → List Part → List Confirmed
confirmed_from place [] = []
confirmed_from place (Question s ∷ parts) = confirmed_from (suc place) parts
confirmed_from place (Answered block ∷ parts) = record { output = block.output; part = place } ∷ confirmed_from (suc place) parts

-- An answer of a journal, with the parts before it, is good for the function of its output.
pub record IsGood (parts : Parts) (rails : ℕ) (before : List Part) (block : BlockParts) : Type 0 where
  pub function : Function
  pub of_output : slice_get parts.functions block.output ≡ Some function
  pub name : slice_get parts.output_names block.output ≡ Some block.name
  pub good : Good rails block.output function before block.answer

-- Where a journal is audited, each of its answers is good, whoever wrote the journal.
abbrev pub AreGood : Type 0
AreGood = (parts : Parts) (journal : JournalParts) → IsPla parts → IsJournal journal → Audited parts journal
    → (before : List Part) (block : BlockParts) (later : List Part) → journal.parts ≡ before ++ Answered block ∷ later → IsGood parts journal.rails before block
