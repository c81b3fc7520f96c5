-- What the audit of a text comes to.
use Rattle.std.specs.Prelude.{◌≡◌, ◌≢◌, ℕ, List, Ok}
use Rattle.pla_reader.specs.Parts.{Parts}
use Rattle.journal_text.specs.Lines.{AreParts, IsRefusedBehind}
use Rattle.journal_text.specs.Parts.{JournalParts, parts_of_journal}
use Rattle.journal_text.specs.Reading.{IsRefused, Gives, HasLineNumbers}
use Rattle.journal_text.specs.declared.journal.Journal.{Journal}
use Rattle.journal_text.specs.declared.journal.Part.{Part as PartRead}
use Rattle.journal_text.specs.declared.reader.Reader.{Reader}
use Rattle.journal_text.specs.declared.refusal.JournalRefusal.TheVariants as forms
use Rattle.audit_core.specs.Audit.{Audited, IsAuditRefused}
use Rattle.audit_core.specs.Confirmed.{confirmed_from}
use Rattle.audit_core.specs.declared.audit.Confirmed.{Confirmed}
use Rattle.audit_core.specs.declared.refusal.AuditRefusal.{AuditRefusal}
use Rattle.audit_core.specs.declared.refusal.AuditRefusal.TheVariants.{NoMemory}
use Rattle.audit_core.specs.declared.refusal.TextRefusal.{TextRefusal}
use Rattle.audit_core.specs.declared.refusal.TextRefusal.TheVariants.{Form, Audit}

-- The text is that of a journal that is right for the PLA, and these are its answers.
pub record IsTextConfirmed (parts : Parts) (text : List ℕ) (found : List Confirmed) : Type 0 where
  pub journal : JournalParts
  pub spells : Gives text (Ok journal)
  pub audited : Audited parts journal
  pub answers : found ≡ confirmed_from 0 journal.parts

-- The text is that of a journal that is refused so, with the numbers of the text's lines: at its first part that is not right.
pub record IsTextUnaudited (parts : Parts) (text : List ℕ) (refusal : AuditRefusal) : Type 0 where
  pub read : Journal
  pub spells : Gives text (Ok (parts_of_journal read))
  pub lines : HasLineNumbers read
  pub refused : IsAuditRefused parts read refusal

-- Why a text is not confirmed: it is no journal, whatever its parts say; or it is one that is not right. Want of memory tells nothing of the text.
abbrev pub IsTextRefused : Parts → List ℕ → TextRefusal → Type 0
IsTextRefused parts text (Form r) = r ≢ forms.NoMemory → IsRefused text r
IsTextRefused parts text (Audit r) = r ≢ NoMemory → IsTextUnaudited parts text r

-- what is told behind a part that is refused: the fault of what is left, or the refusal where nothing but parts and the last line is left
abbrev pub StopsBehind : Reader → AuditRefusal → TextRefusal → Type 0
StopsBehind reader refusal (Form r) = IsRefusedBehind reader.version reader.rest.now reader.line r
StopsBehind reader refusal (Audit r) = (r ≡ refusal) × (later : List PartRead) × AreParts reader.version reader.line reader.rest.now later
