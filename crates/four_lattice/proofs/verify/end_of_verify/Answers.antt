use Rattle.std.proofs.Common.{rules, refl, subst, inl, inr, arith}
use Rattle.pla_reader.specs.Parts.{parts_of}
use Rattle.report_text.specs.Report.{parts_of_report}
use Rattle.wire_io.specs.Told.{Gains, GainsFront}
use Rattle.four_lattice.specs.Judge.{Realised, Denies, IsReportRefused}
use Rattle.four_lattice.specs.declared.ending.Refusal.TheVariants.{Side}
use Rattle.four_lattice.proofs.FinishLaws.{side_stops, test_stops, quiet_done, quiet_fault, spent_both}
use Rattle.four_lattice.proofs.CommandLaws.{realised_by, denial_level}
use Rattle.four_lattice.proofs.verify.end_of_verify.Goals as goal

pub returns-in-Err-input_report-clause-finishes : goal.returns-in-Err-input_report-clause-finishes
returns-in-Err-input_report-clause-finishes g c = λ journal. side_stops _ _ _ _ (refl, refl)
    (record { pla = c.in-Ok.ensures.later; side = c.in-Err-input_report.ensures.later; out = omega arith; journal = omega arith }) IsReportRefused refl c.in-Ok.ensures.spent c.in-Ok.ensures.taken
    (λ r told. inr (parts_of c.in-Ok.text, c.in-Ok.ensures.reads, inl (Side r, (r, told, refl), refl))) c.in-Err-input_report.ending c.in-Err-input_report.ensures.ends

pub returns-in-Err-input_report-clause-side_last : goal.returns-in-Err-input_report-clause-side_last
returns-in-Err-input_report-clause-side_last g c = inr (parts_of c.in-Ok.text, c.in-Ok.ensures.reads)

pub returns-in-Err-confirm-clause-finishes : goal.returns-in-Err-confirm-clause-finishes
returns-in-Err-confirm-clause-finishes g c =
    let report = parts_of_report c.in-Ok-input_report.report in
    λ journal. test_stops _ _ _ _ (refl, refl) (record { pla = c.in-Ok.ensures.later; side = c.in-Ok-input_report.ensures.later; out = omega arith; journal = omega arith }) (Denies (parts_of c.in-Ok.text) report)
    (spent_both c.in-Ok.ensures.spent c.in-Ok-input_report.ensures.spent) c.in-Ok.ensures.taken c.in-Ok-input_report.ensures.taken (denial_level (parts_of c.in-Ok.text) report)
    (λ r h. inr (parts_of c.in-Ok.text, c.in-Ok.ensures.reads, inr (report, c.in-Ok-input_report.ensures.reads, inl (r, h, refl)))) c.in-Err-confirm.ending c.in-Err-confirm.ensures.ends

pub returns-in-Err-confirm-clause-side_last : goal.returns-in-Err-confirm-clause-side_last
returns-in-Err-confirm-clause-side_last g c = inr (parts_of c.in-Ok.text, c.in-Ok.ensures.reads)

pub returns-in-Ok-write_realised-clause-finishes : goal.returns-in-Ok-write_realised-clause-finishes
returns-in-Ok-write_realised-clause-finishes g c =
    let report = parts_of_report c.in-Ok-input_report.report in
    let text = realised_by c.in-Ok-confirm.many c.in-Ok-input_report.report c.in-Ok-confirm.ensures.many in
    λ journal. quiet_done _ _ _ _ _ _ journal (Realised report) _ (inr (parts_of c.in-Ok.text, c.in-Ok.ensures.reads, inr (report, c.in-Ok-input_report.ensures.reads, inr (c.in-Ok-confirm.ensures.verified, refl))))
    (spent_both c.in-Ok.ensures.spent c.in-Ok-input_report.ensures.spent) (record { pla = c.in-Ok.ensures.later; side = c.in-Ok-input_report.ensures.later; out = c.in-Ok-write_realised.ensures.cause.later; journal = omega arith }) (λ w s. s)
    (subst (λ t. Gains (g.K.Sink.got c.args.out.now) (g.K.Sink.got c.write_realised.new.out) t) text c.in-Ok-write_realised.ensures.ok)

pub returns-in-Ok-write_realised-clause-side_last : goal.returns-in-Ok-write_realised-clause-side_last
returns-in-Ok-write_realised-clause-side_last g c = inr (parts_of c.in-Ok.text, c.in-Ok.ensures.reads)

pub returns-in-Ok-write_realised-clause-out_last : goal.returns-in-Ok-write_realised-clause-out_last
returns-in-Ok-write_realised-clause-out_last g c =
    inr (Realised (parts_of_report c.in-Ok-input_report.report), inr (parts_of c.in-Ok.text, c.in-Ok.ensures.reads, inr (parts_of_report c.in-Ok-input_report.report, c.in-Ok-input_report.ensures.reads, inr (c.in-Ok-confirm.ensures.verified, refl))))

pub returns-clause-finishes : goal.returns-clause-finishes
returns-clause-finishes g c =
    let report = parts_of_report c.in-Ok-input_report.report in
    let text = realised_by c.in-Ok-confirm.many c.in-Ok-input_report.report c.in-Ok-confirm.ensures.many in
    λ journal. quiet_fault _ _ _ _ _ _ journal (Realised report) _ (inr (parts_of c.in-Ok.text, c.in-Ok.ensures.reads, inr (report, c.in-Ok-input_report.ensures.reads, inr (c.in-Ok-confirm.ensures.verified, refl))))
    (spent_both c.in-Ok.ensures.spent c.in-Ok-input_report.ensures.spent) (record { pla = c.in-Ok.ensures.later; side = c.in-Ok-input_report.ensures.later; out = c.write_realised.ensures.cause.later; journal = omega arith }) (λ front s. s)
    (search rules) (subst (λ t. GainsFront (g.K.Sink.got c.args.out.now) (g.K.Sink.got c.write_realised.new.out) t) text c.write_realised.ensures.front)

pub returns-clause-side_last : goal.returns-clause-side_last
returns-clause-side_last g c = inr (parts_of c.in-Ok.text, c.in-Ok.ensures.reads)

pub returns-clause-out_last : goal.returns-clause-out_last
returns-clause-out_last g c =
    inr (Realised (parts_of_report c.in-Ok-input_report.report), inr (parts_of c.in-Ok.text, c.in-Ok.ensures.reads, inr (parts_of_report c.in-Ok-input_report.report, c.in-Ok-input_report.ensures.reads, inr (c.in-Ok-confirm.ensures.verified, refl))))
