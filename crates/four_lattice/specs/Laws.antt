-- Laws of the judgement of texts, in words that do not speak of a run.
use Rattle.std.specs.Prelude.{◌≡◌, ◌≤◌, length, Some, IsSomeAnd}
use Rattle.std.specs.declared.option.Option.{Option}
use Rattle.pla_reader.specs.Parts.{Parts}
use Rattle.journal_text.specs.Bounds.{IsJournal}
use Rattle.journal_text.specs.Parts.{JournalParts}
use Rattle.journal_text.specs.Text.{journal_text}
use Rattle.audit_core.specs.Audit.{Audited}
use Rattle.four_lattice.specs.Judge.{Texts, Judgement, Accepted, Confirmed, PlaGives, Comes}
use Rattle.four_lattice.specs.Uses.{most_side_bytes}
use Rattle.four_lattice.specs.declared.words.Job.{Job}
use Rattle.four_lattice.specs.declared.words.Job.TheVariants.{Audit}

-- Told texts come to one judgement: never to two refusals, nor to a refusal and a task, nor to two tasks.
abbrev pub IsOneJudgement : Type 0
IsOneJudgement = (asked : Option Job) (x : Texts) (one other : Judgement) → Comes IsSomeAnd asked x one → Comes IsSomeAnd asked x other → one ≡ other

-- A PLA and the text of a journal that is right for it, if it is no longer than a side file may be, come to the confirmation of that journal.
abbrev pub IsConfirmed : Type 0
IsConfirmed = (x : Texts) (parts : Parts) (journal : JournalParts) → PlaGives IsSomeAnd x parts → x.side ≡ Some (journal_text journal) → length (journal_text journal) ≤ most_side_bytes
    → IsJournal journal → Audited parts journal → Comes IsSomeAnd (Some Audit) x (Accepted (Confirmed journal))
