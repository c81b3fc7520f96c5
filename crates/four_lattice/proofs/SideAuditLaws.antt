-- What the audit of a side file comes to, from what was read of it.
use Rattle.std.proofs.Common.{◌≡◌, ◌≢◌, ℕ, ◌≤◌, List, length, refl, ap, ◌∙◌, arith, inl, inr}
use Rattle.audit_core.specs.Streamed.{IsTextConfirmed, IsTextRefused}
use Rattle.audit_core.specs.declared.audit.Confirmed.{Confirmed}
use Rattle.audit_core.specs.declared.refusal.AuditRefusal.TheVariants as audits
use Rattle.audit_core.specs.declared.refusal.TextRefusal.{TextRefusal}
use Rattle.audit_core.specs.declared.refusal.TextRefusal.TheVariants.{Form, Audit}
use Rattle.journal_text.specs.Parts.{JournalParts, parts_of_journal}
use Rattle.journal_text.specs.Reading.{Gives as GivesJournal}
use Rattle.journal_text.specs.declared.refusal.JournalRefusal.TheVariants as forms
use Rattle.pla_reader.specs.Parts.{Parts}
use Rattle.std.specs.Prelude.{Ok}
use Rattle.std.specs.declared.option.Option.{Option}
use Rattle.wire_io.specs.Told.{IsSpent, Loses}
use Rattle.four_lattice.specs.Devices.{Change}
use Rattle.four_lattice.specs.Judge.{IsJournalRefused}
use Rattle.four_lattice.specs.SideAudit.{EndsAs, EndsAudit, HasConfirmed, StopsAudit}
use Rattle.four_lattice.specs.Uses.{most_side_bytes}
use Rattle.four_lattice.specs.declared.ending.Ending.{Ending}
use Rattle.four_lattice.specs.declared.ending.Refusal.TheVariants.{Side, Unconfirmed}
use Rattle.four_lattice.specs.declared.ending.SideRefusal.TheVariants as sides
use Rattle.four_lattice.specs.declared.ending.Unconfirmed.TheVariants.{Unaudited}
use Rattle.four_lattice.proofs.AuditedLaws.{audit_memory}
use Rattle.four_lattice.proofs.CommandLaws.{confirmed_many}
use Rattle.four_lattice.proofs.InputsLaws.{parse_stops, journal_memory, whole_told, LosesUpTo-whole}

pub text_confirmed : (parts : Parts) (old new : Option (List ℕ)) (bytes : List ℕ) (found : List Confirmed) (many : ℕ) → many ≡ length found → Loses old new bytes → IsSpent new → length bytes ≤ most_side_bytes → IsTextConfirmed parts bytes found
    → (journal : JournalParts) × HasConfirmed parts old journal many
text_confirmed parts old new bytes found many e lost spent few h = (
  h.journal,
  record {
    reads = whole_told old new bytes (λ b. (length b ≤ most_side_bytes) × GivesJournal b (Ok h.journal)) lost spent (few, h.spells);
    audited = h.audited;
    all = e ∙ ap length h.answers ∙ confirmed_many 0 h.journal.parts;
  },
)

pub text_stops : (parts : Parts) (c : Change) (bytes : List ℕ) (told : TextRefusal) (ending : Ending) → EndsAs told ending → Loses c.old.told c.new.told bytes → IsSpent c.new.told → length bytes ≤ most_side_bytes → IsTextRefused parts bytes told
    → EndsAudit parts ending c
text_stops parts c bytes (Form r) ending is_as lost spent few h =
    inl (parse_stops Side (λ s. s ≡ sides.TooLong) IsJournalRefused most_side_bytes c sides.Journal forms.NoMemory journal_memory r ending bytes is_as.0 is_as.1 lost spent few (λ other. (few, h other)))
text_stops parts c bytes (Audit r) ending is_as lost spent few h = elim (audit_memory r) [
  | inl m ↦ inl (inr (inr (is_as.1 m, LosesUpTo-whole c.old.told c.new.told bytes most_side_bytes lost few)))
  | inr o ↦
      let k = h o in
      inr (record {
        journal = parts_of_journal k.read;
        reads = whole_told c.old.told c.new.told bytes (λ b. (length b ≤ most_side_bytes) × GivesJournal b (Ok (parts_of_journal k.read))) lost spent (few, k.spells);
        stops = inl (Unconfirmed (Unaudited r), (r, record { read = k.read; is_journal = refl; lines = k.lines; refused = k.refused }, refl), is_as.0 o);
        spent = spent;
        taken = LosesUpTo-whole c.old.told c.new.told bytes most_side_bytes lost few;
      })
]
