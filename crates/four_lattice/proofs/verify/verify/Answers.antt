use Rattle.pla_reader.specs.Parts.{parts_of}
use Rattle.report_text.specs.Report.{parts_of_report}
use Rattle.four_lattice.proofs.VerifiedLaws.{only_denial}
use Rattle.four_lattice.proofs.verify.verify.Goals as goal

pub returns-clause-only_refusal : goal.returns-clause-only_refusal
returns-clause-only_refusal c refusal denied =
    only_denial c.test_report.result (parts_of c.args.pla.now) (parts_of_report c.args.report.now) c.test_report.ensures.verified c.test_report.ensures.refused refusal denied
