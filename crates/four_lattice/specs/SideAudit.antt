-- For the crate's own proofs: what the audit of a side file comes to.
use Rattle.std.specs.Prelude.{◌≡◌, ◌≢◌, ◌⊎◌, ℕ, ◌≤◌, List, length, IfSome, Ok}
use Rattle.std.specs.declared.option.Option.{Option}
use Rattle.audit_core.specs.Audit.{Audited}
use Rattle.audit_core.specs.declared.refusal.AuditRefusal.TheVariants as audits
use Rattle.audit_core.specs.declared.refusal.TextRefusal.{TextRefusal}
use Rattle.audit_core.specs.declared.refusal.TextRefusal.TheVariants.{Form, Audit}
use Rattle.journal_text.specs.Parts.{JournalParts}
use Rattle.journal_text.specs.Reading.{Gives as GivesJournal}
use Rattle.journal_text.specs.declared.refusal.JournalRefusal.TheVariants as forms
use Rattle.pla_reader.specs.Parts.{Parts}
use Rattle.wire_io.specs.Told.{IsSpent, LosesUpTo}
use Rattle.four_lattice.specs.Devices.{Change, EndsTest}
use Rattle.four_lattice.specs.Inputs.{EndsJournal}
use Rattle.four_lattice.specs.Judge.{Unconfirms}
use Rattle.four_lattice.specs.Synth.{answers_of}
use Rattle.four_lattice.specs.Uses.{most_side_bytes}
use Rattle.four_lattice.specs.declared.ending.Ending.{Ending}
use Rattle.four_lattice.specs.declared.ending.Ending.TheVariants as endings
use Rattle.four_lattice.specs.declared.ending.Refusal.TheVariants.{Side, Unconfirmed}
use Rattle.four_lattice.specs.declared.ending.SideRefusal.TheVariants.{Journal}
use Rattle.four_lattice.specs.declared.ending.Unconfirmed.TheVariants.{Unaudited}

-- how a run ends whose text of a journal is refused so
abbrev pub EndsAs : TextRefusal → Ending → Type 0
EndsAs (Form r) e = (r ≢ forms.NoMemory → e ≡ endings.Refused (Side (Journal r))) × (r ≡ forms.NoMemory → e ≡ endings.NoMemory)
EndsAs (Audit r) e = (r ≢ audits.NoMemory → e ≡ endings.Refused (Unconfirmed (Unaudited r))) × (r ≡ audits.NoMemory → e ≡ endings.NoMemory)

-- the side file is the text of this journal
abbrev pub SideGives : Option (List ℕ) → JournalParts → Type 0
SideGives told journal = IfSome told (λ bytes. (length bytes ≤ most_side_bytes) × GivesJournal bytes (Ok journal))

-- it is right, and has so many answers
pub record HasConfirmed (parts : Parts) (told : Option (List ℕ)) (journal : JournalParts) (many : ℕ) : Type 0 where
  pub reads : SideGives told journal
  pub audited : Audited parts journal
  pub all : many ≡ length (answers_of journal.parts)

-- the side file is the text of a journal, and its audit stops the run
pub record StopsAudit (parts : Parts) (ending : Ending) (c : Change) : Type 0 where
  pub journal : JournalParts
  pub reads : SideGives c.old.told journal
  pub stops : EndsTest (Unconfirms parts journal) ending
  pub spent : IsSpent c.new.told
  pub taken : LosesUpTo c.old.told c.new.told most_side_bytes

-- Why no answers are confirmed: the side file is no journal, or it is one that is not right.
abbrev pub EndsAudit : Parts → Ending → Change → Type 0
EndsAudit parts ending c = EndsJournal ending c ⊎ StopsAudit parts ending c
