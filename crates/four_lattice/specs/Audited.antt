-- Why a journal that was read is not right for a PLA.
use Rattle.std.specs.Prelude.{◌≡◌}
use Rattle.audit_core.specs.Audit.{IsAuditRefused}
use Rattle.audit_core.specs.declared.refusal.AuditRefusal.{AuditRefusal}
use Rattle.journal_text.specs.Parts.{JournalParts, parts_of_journal}
use Rattle.journal_text.specs.Reading.{HasLineNumbers}
use Rattle.journal_text.specs.declared.journal.Journal.{Journal}
use Rattle.pla_reader.specs.Parts.{Parts}

-- With the numbers that the lines of its text have, the journal is refused so: at its first part that is not right.
pub record IsUnaudited (parts : Parts) (journal : JournalParts) (refusal : AuditRefusal) : Type 0 where
  pub read : Journal
  pub is_journal : parts_of_journal read ≡ journal
  pub lines : HasLineNumbers read
  pub refused : IsAuditRefused parts read refusal
