-- A journal made anew in version 2.
use Rattle.std.specs.Prelude.{◌≡◌, [], map}
use Rattle.pla_reader.specs.Parts.{Parts}
use Rattle.report_text.specs.declared.answer.Version.TheVariants.{Two}
use Rattle.journal_text.specs.Bounds.{IsJournal}
use Rattle.journal_text.specs.Parts.{Part, Question, Answered, JournalParts}
use Rattle.audit_core.specs.Audit.{Audited}

-- a part without its list of proofs
abbrev pub unlisted : Part → Part
unlisted (Question s) = Question s
unlisted (Answered block) = Answered (record { output = block.output; name = block.name; answer = block.answer; proofs = [] })

-- In version 2, with the same rails, the same sections and answers in order, lists of proofs aside.
pub record IsAnew (old new : JournalParts) : Type 0 where
  pub version : new.version ≡ Two
  pub rails : new.rails ≡ old.rails
  pub same : map unlisted new.parts ≡ map unlisted old.parts

-- It may stand in a text, and it is right for the PLA, so each answer in it lists its proofs.
pub record IsRenewed (parts : Parts) (old new : JournalParts) : Type 0 where
  pub anew : IsAnew old new
  pub journal : IsJournal new
  pub audited : Audited parts new
