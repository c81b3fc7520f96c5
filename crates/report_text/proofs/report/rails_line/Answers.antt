use Rattle.std.proofs.Common.{[], ap, ◌++◌, ◌∙◌}
use Rattle.report_text.specs.Expected.Expected.{Rails}
use Rattle.report_text.specs.Report.{words_text}
use Rattle.report_text.specs.Report.Kind.{OfRails}
use Rattle.report_text.proofs.StopLaws.{stops_here, runs_out_here, line_read}
use Rattle.report_text.proofs.report.rails_line.Goals as goal

pub returns-in_default : goal.returns-in_default
returns-in_default c = λ later. runs_out_here Rails later c.args.bytes.now 3 c.in_default.ensures

pub returns-in-None : goal.returns-in-None
returns-in-None c = λ later. stops_here Rails later c.args.bytes.now c.in-Some.text.now c.in-Some.rest.now 3 c.in-Some.ensures (λ more (n, few, e, none). c.in-None.ensures n few e)

pub returns-in-Some-rails_of : goal.returns-in-Some-rails_of
returns-in-Some-rails_of c = (
  c.in-Some-rails_of.ensures.0,
  line_read c.args.bytes.now c.in-Some.text.now c.in-Some.rest.now OfRails c.in-Some.ensures ∙ ap (λ ws. (words_text ws ++ []) ++ c.in-Some.rest.now) c.in-Some-rails_of.ensures.1,
)
