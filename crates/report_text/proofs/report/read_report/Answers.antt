use Rattle.std.proofs.Common.{◌+◌, Ok, Err}
use Rattle.report_text.specs.declared.report.ReportRefusal.TheVariants.{Truncated}
use Rattle.report_text.specs.Pieces.{feeds}
use Rattle.report_text.proofs.AnswerLaws.{only_answer, front_is_cut_short, refused_ok}
use Rattle.report_text.proofs.report.read_report.Goals as goal

pub returns-clause-refused : goal.returns-clause-refused
returns-clause-refused c = refused_ok c.args.bytes.now c.spelled.result c.spelled.ensures

pub returns-clause-only : goal.returns-clause-only
returns-clause-only c = only_answer c.args.bytes.now c.spelled.result c.spelled.ensures

pub returns-clause-again : goal.returns-clause-again
returns-clause-again c = λ report is e. only_answer c.args.bytes.now c.spelled.result c.spelled.ensures (Ok report) (is, e)

pub returns-clause-cut_short : goal.returns-clause-cut_short
returns-clause-cut_short c = λ report more is some e.
    only_answer c.args.bytes.now c.spelled.result c.spelled.ensures (Err (Truncated (1 + feeds c.args.bytes.now))) (front_is_cut_short report c.args.bytes.now more is some e)
