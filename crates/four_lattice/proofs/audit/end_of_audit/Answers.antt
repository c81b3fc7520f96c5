use Rattle.std.proofs.Common.{rules, refl, subst, inl, inr, arith}
use Rattle.pla_reader.specs.Parts.{parts_of}
use Rattle.wire_io.specs.Told.{Gains, GainsFront}
use Rattle.four_lattice.specs.Judge.{Confirmed, Unconfirms, IsJournalRefused}
use Rattle.four_lattice.specs.declared.ending.Refusal.TheVariants.{Side}
use Rattle.four_lattice.proofs.FinishLaws.{side_stops, test_stops, quiet_done, quiet_fault, spent_both}
use Rattle.four_lattice.proofs.CommandLaws.{confirmed_by, audit_level}
use Rattle.four_lattice.proofs.audit.end_of_audit.Goals as goal

pub returns-in-Err-confirm_side-clause-finishes : goal.returns-in-Err-confirm_side-clause-finishes
returns-in-Err-confirm_side-clause-finishes g c = λ journal. elim c.in-Err-confirm_side.ensures.ends [
  | inl h ↦
      side_stops _ _ _ _ (refl, refl) (record { pla = c.in-Ok.ensures.later; side = c.in-Err-confirm_side.ensures.later; out = omega arith; journal = omega arith }) IsJournalRefused refl c.in-Ok.ensures.spent c.in-Ok.ensures.taken
      (λ r told. inr (parts_of c.in-Ok.text, c.in-Ok.ensures.reads, inl (Side r, (r, told, refl), refl))) c.in-Err-confirm_side.ending h
  | inr h ↦
      test_stops _ _ _ _ (refl, refl) (record { pla = c.in-Ok.ensures.later; side = c.in-Err-confirm_side.ensures.later; out = omega arith; journal = omega arith }) (Unconfirms (parts_of c.in-Ok.text) h.journal)
      (spent_both c.in-Ok.ensures.spent h.spent) c.in-Ok.ensures.taken h.taken (audit_level (parts_of c.in-Ok.text) h.journal)
      (λ r k. inr (parts_of c.in-Ok.text, c.in-Ok.ensures.reads, inr (h.journal, h.reads, inl (r, k, refl)))) c.in-Err-confirm_side.ending h.stops
]

pub returns-in-Err-confirm_side-clause-side_last : goal.returns-in-Err-confirm_side-clause-side_last
returns-in-Err-confirm_side-clause-side_last g c = inr (parts_of c.in-Ok.text, c.in-Ok.ensures.reads)

pub returns-in-Ok-write_confirmed-clause-finishes : goal.returns-in-Ok-write_confirmed-clause-finishes
returns-in-Ok-write_confirmed-clause-finishes g c =
    let said = c.in-Ok-confirm_side.ensures.confirmed.0 in
    let is = c.in-Ok-confirm_side.ensures.confirmed.1 in
    let text = confirmed_by c.in-Ok-confirm_side.many said is.all in
    λ journal. quiet_done _ _ _ _ _ _ journal (Confirmed said) _ (inr (parts_of c.in-Ok.text, c.in-Ok.ensures.reads, inr (said, is.reads, inr (is.audited, refl))))
    (spent_both c.in-Ok.ensures.spent c.in-Ok-confirm_side.ensures.spent) (record { pla = c.in-Ok.ensures.later; side = c.in-Ok-confirm_side.ensures.later; out = c.in-Ok-write_confirmed.ensures.cause.later; journal = omega arith }) (λ w s. s)
    (subst (λ t. Gains (g.K.Sink.got c.args.out.now) (g.K.Sink.got c.write_confirmed.new.out) t) text c.in-Ok-write_confirmed.ensures.ok)

pub returns-in-Ok-write_confirmed-clause-side_last : goal.returns-in-Ok-write_confirmed-clause-side_last
returns-in-Ok-write_confirmed-clause-side_last g c = inr (parts_of c.in-Ok.text, c.in-Ok.ensures.reads)

pub returns-in-Ok-write_confirmed-clause-out_last : goal.returns-in-Ok-write_confirmed-clause-out_last
returns-in-Ok-write_confirmed-clause-out_last g c =
    let said = c.in-Ok-confirm_side.ensures.confirmed.0 in
    let is = c.in-Ok-confirm_side.ensures.confirmed.1 in
    inr (Confirmed said, inr (parts_of c.in-Ok.text, c.in-Ok.ensures.reads, inr (said, is.reads, inr (is.audited, refl))))

pub returns-clause-finishes : goal.returns-clause-finishes
returns-clause-finishes g c =
    let said = c.in-Ok-confirm_side.ensures.confirmed.0 in
    let is = c.in-Ok-confirm_side.ensures.confirmed.1 in
    let text = confirmed_by c.in-Ok-confirm_side.many said is.all in
    λ journal. quiet_fault _ _ _ _ _ _ journal (Confirmed said) _ (inr (parts_of c.in-Ok.text, c.in-Ok.ensures.reads, inr (said, is.reads, inr (is.audited, refl))))
    (spent_both c.in-Ok.ensures.spent c.in-Ok-confirm_side.ensures.spent) (record { pla = c.in-Ok.ensures.later; side = c.in-Ok-confirm_side.ensures.later; out = c.write_confirmed.ensures.cause.later; journal = omega arith }) (λ front s. s)
    (search rules) (subst (λ t. GainsFront (g.K.Sink.got c.args.out.now) (g.K.Sink.got c.write_confirmed.new.out) t) text c.write_confirmed.ensures.front)

pub returns-clause-side_last : goal.returns-clause-side_last
returns-clause-side_last g c = inr (parts_of c.in-Ok.text, c.in-Ok.ensures.reads)

pub returns-clause-out_last : goal.returns-clause-out_last
returns-clause-out_last g c =
    let said = c.in-Ok-confirm_side.ensures.confirmed.0 in
    let is = c.in-Ok-confirm_side.ensures.confirmed.1 in
    inr (Confirmed said, inr (parts_of c.in-Ok.text, c.in-Ok.ensures.reads, inr (said, is.reads, inr (is.audited, refl))))
