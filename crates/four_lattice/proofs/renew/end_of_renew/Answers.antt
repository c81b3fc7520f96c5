use Rattle.std.proofs.Common.{rules, refl, inl, inr, arith}
use Rattle.pla_reader.specs.Parts.{parts_of}
use Rattle.journal_text.specs.Parts.{parts_of_journal}
use Rattle.four_lattice.specs.Judge.{Renewed, Unconfirms, IsJournalRefused}
use Rattle.four_lattice.specs.declared.ending.Refusal.TheVariants.{Side}
use Rattle.four_lattice.proofs.FinishLaws.{side_stops, test_stops, wants_memory, quiet_done, quiet_fault, spent_both}
use Rattle.four_lattice.proofs.CommandLaws.{audit_level}
use Rattle.four_lattice.proofs.renew.end_of_renew.Goals as goal

pub returns-in-Err-input_journal-clause-finishes : goal.returns-in-Err-input_journal-clause-finishes
returns-in-Err-input_journal-clause-finishes g c = λ journal. side_stops _ _ _ _ (refl, refl)
    (record { pla = c.in-Ok.ensures.later; side = c.in-Err-input_journal.ensures.later; out = omega arith; journal = omega arith }) IsJournalRefused refl c.in-Ok.ensures.spent c.in-Ok.ensures.taken
    (λ r told. inr (parts_of c.in-Ok.text, c.in-Ok.ensures.reads, inl (Side r, (r, told, refl), refl))) c.in-Err-input_journal.ending c.in-Err-input_journal.ensures.ends

pub returns-in-Err-input_journal-clause-side_last : goal.returns-in-Err-input_journal-clause-side_last
returns-in-Err-input_journal-clause-side_last g c = inr (parts_of c.in-Ok.text, c.in-Ok.ensures.reads)

pub returns-in-Err-confirm-clause-finishes : goal.returns-in-Err-confirm-clause-finishes
returns-in-Err-confirm-clause-finishes g c =
    let said = parts_of_journal c.in-Ok-input_journal.journal in
    λ journal. test_stops _ _ _ _ (refl, refl) (record { pla = c.in-Ok.ensures.later; side = c.in-Ok-input_journal.ensures.later; out = omega arith; journal = omega arith }) (Unconfirms (parts_of c.in-Ok.text) said)
    (spent_both c.in-Ok.ensures.spent c.in-Ok-input_journal.ensures.spent) c.in-Ok.ensures.taken c.in-Ok-input_journal.ensures.taken (audit_level (parts_of c.in-Ok.text) said)
    (λ r h. inr (parts_of c.in-Ok.text, c.in-Ok.ensures.reads, inr (said, c.in-Ok-input_journal.ensures.reads, inl (r, h, refl)))) c.in-Err-confirm.ending c.in-Err-confirm.ensures.ends

pub returns-in-Err-confirm-clause-side_last : goal.returns-in-Err-confirm-clause-side_last
returns-in-Err-confirm-clause-side_last g c = inr (parts_of c.in-Ok.text, c.in-Ok.ensures.reads)

pub returns-in-Err-renewed-clause-finishes : goal.returns-in-Err-renewed-clause-finishes
returns-in-Err-renewed-clause-finishes g c =
    λ journal. wants_memory _ _ _ _ (refl, refl) (record { pla = c.in-Ok.ensures.later; side = c.in-Ok-input_journal.ensures.later; out = omega arith; journal = omega arith }) c.in-Ok.ensures.taken c.in-Ok-input_journal.ensures.taken

pub returns-in-Err-renewed-clause-side_last : goal.returns-in-Err-renewed-clause-side_last
returns-in-Err-renewed-clause-side_last g c = inr (parts_of c.in-Ok.text, c.in-Ok.ensures.reads)

pub returns-in-Ok-write_journal-clause-finishes : goal.returns-in-Ok-write_journal-clause-finishes
returns-in-Ok-write_journal-clause-finishes g c =
    let said = parts_of_journal c.in-Ok-input_journal.journal in
    let new = parts_of_journal c.in-Ok-renewed.made in
    let right = c.in-Ok-renewed.ensures.right (parts_of c.in-Ok.text) c.in-Ok-confirm.ensures.audited in
    λ journal. quiet_done _ _ _ _ _ _ journal (Renewed (parts_of c.in-Ok.text) said) _ (inr (parts_of c.in-Ok.text, c.in-Ok.ensures.reads, inr (said, c.in-Ok-input_journal.ensures.reads, inr (c.in-Ok-confirm.ensures.audited, refl))))
    (spent_both c.in-Ok.ensures.spent c.in-Ok-input_journal.ensures.spent) (record { pla = c.in-Ok.ensures.later; side = c.in-Ok-input_journal.ensures.later; out = c.in-Ok-write_journal.ensures.cause.later; journal = omega arith })
    (λ w s. record { new = new; renewed = right; says = s }) c.in-Ok-write_journal.ensures.ok

pub returns-in-Ok-write_journal-clause-side_last : goal.returns-in-Ok-write_journal-clause-side_last
returns-in-Ok-write_journal-clause-side_last g c = inr (parts_of c.in-Ok.text, c.in-Ok.ensures.reads)

pub returns-in-Ok-write_journal-clause-out_last : goal.returns-in-Ok-write_journal-clause-out_last
returns-in-Ok-write_journal-clause-out_last g c =
    let said = parts_of_journal c.in-Ok-input_journal.journal in
    inr (Renewed (parts_of c.in-Ok.text) said, inr (parts_of c.in-Ok.text, c.in-Ok.ensures.reads, inr (said, c.in-Ok-input_journal.ensures.reads, inr (c.in-Ok-confirm.ensures.audited, refl))))

pub returns-clause-finishes : goal.returns-clause-finishes
returns-clause-finishes g c =
    let said = parts_of_journal c.in-Ok-input_journal.journal in
    let new = parts_of_journal c.in-Ok-renewed.made in
    let right = c.in-Ok-renewed.ensures.right (parts_of c.in-Ok.text) c.in-Ok-confirm.ensures.audited in
    λ journal. quiet_fault _ _ _ _ _ _ journal (Renewed (parts_of c.in-Ok.text) said) _ (inr (parts_of c.in-Ok.text, c.in-Ok.ensures.reads, inr (said, c.in-Ok-input_journal.ensures.reads, inr (c.in-Ok-confirm.ensures.audited, refl))))
    (spent_both c.in-Ok.ensures.spent c.in-Ok-input_journal.ensures.spent) (record { pla = c.in-Ok.ensures.later; side = c.in-Ok-input_journal.ensures.later; out = c.write_journal.ensures.cause.later; journal = omega arith })
    (λ front s. record { new = new; renewed = right; says = s }) (search rules) c.write_journal.ensures.front

pub returns-clause-side_last : goal.returns-clause-side_last
returns-clause-side_last g c = inr (parts_of c.in-Ok.text, c.in-Ok.ensures.reads)

pub returns-clause-out_last : goal.returns-clause-out_last
returns-clause-out_last g c =
    let said = parts_of_journal c.in-Ok-input_journal.journal in
    inr (Renewed (parts_of c.in-Ok.text) said, inr (parts_of c.in-Ok.text, c.in-Ok.ensures.reads, inr (said, c.in-Ok-input_journal.ensures.reads, inr (c.in-Ok-confirm.ensures.audited, refl))))
