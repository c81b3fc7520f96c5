use Rattle.std.proofs.Common.{[], ap, ◌++◌, ◌∙◌}
use Rattle.report_text.specs.Expected.{Meets}
use Rattle.report_text.specs.Expected.Expected.{Title}
use Rattle.report_text.specs.Report.{words_text}
use Rattle.report_text.specs.Report.Kind.{OfTitle}
use Rattle.report_text.proofs.StopLaws.{stops_here, runs_out_here, line_read}
use Rattle.report_text.proofs.report.title_at.Goals as goal

pub returns-in_default : goal.returns-in_default
returns-in_default c = runs_out_here Title [] c.args.bytes.now 1 c.in_default.ensures

pub returns-in-None : goal.returns-in-None
returns-in-None c = stops_here Title [] c.args.bytes.now c.in-Some.title.now c.in-Some.rest.now 1 c.in-Some.ensures (λ more (v, e, after). c.in-None.ensures v e)

pub returns-in-Some-version_of : goal.returns-in-Some-version_of
returns-in-Some-version_of c =
    line_read c.args.bytes.now c.in-Some.title.now c.in-Some.rest.now OfTitle c.in-Some.ensures ∙ ap (λ ws. (words_text ws ++ []) ++ c.in-Some.rest.now) c.in-Some-version_of.ensures
