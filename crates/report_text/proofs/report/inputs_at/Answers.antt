use Rattle.std.proofs.Common.{[], ap, ◌++◌, ◌∙◌}
use Rattle.report_text.specs.Expected.Expected.{Inputs}
use Rattle.report_text.specs.Report.{words_text}
use Rattle.report_text.specs.Report.Kind.{OfInputs}
use Rattle.report_text.proofs.StopLaws.{stops_here, runs_out_here, line_read}
use Rattle.report_text.proofs.report.inputs_at.Goals as goal

pub returns-in_default : goal.returns-in_default
returns-in_default c = λ later. runs_out_here Inputs later c.args.bytes.now 2 c.in_default.ensures

pub returns-in-None : goal.returns-in-None
returns-in-None c =
    let none = rw c.in-None.is at c.in_ok-names_of.ensures in
    λ later. stops_here Inputs later c.args.bytes.now c.in-Some.text.now c.in-Some.rest.now 2 c.in-Some.ensures (λ more (names, are, e, nothing). none names are e)

pub returns-in-Some-2 : goal.returns-in-Some-2
returns-in-Some-2 c =
    let names = rw c.in-Some-2.is at c.in_ok-names_of.ensures in
    (names.0, line_read c.args.bytes.now c.in-Some.text.now c.in-Some.rest.now OfInputs c.in-Some.ensures ∙ ap (λ ws. (words_text ws ++ []) ++ c.in-Some.rest.now) names.1)
