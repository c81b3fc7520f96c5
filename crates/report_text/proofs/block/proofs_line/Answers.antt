use Rattle.std.proofs.Common.{[], ap, ◌++◌, ◌∙◌}
use Rattle.report_text.specs.Expected.Expected.{Proofs}
use Rattle.report_text.specs.Report.{words_text}
use Rattle.report_text.specs.Report.Kind.{OfProofs}
use Rattle.report_text.proofs.StopLaws.{stops_here, runs_out_here, line_read}
use Rattle.report_text.proofs.block.proofs_line.Goals as goal

pub returns-in_default : goal.returns-in_default
returns-in_default c = λ later. runs_out_here Proofs later c.args.bytes.now c.args.line c.in_default.ensures

pub returns-in-None : goal.returns-in-None
returns-in-None c =
    let none = rw c.in-None.is at c.in_ok-proofs_of.ensures in
    λ later. stops_here Proofs later c.args.bytes.now c.in-Some.text.now c.in-Some.rest.now c.args.line c.in-Some.ensures (λ more (ps, are, e, nothing). none ps are e)

pub returns-in-Some-2 : goal.returns-in-Some-2
returns-in-Some-2 c =
    let ps = rw c.in-Some-2.is at c.in_ok-proofs_of.ensures in
    record {
      each = ps.0;
      none = λ e. absurd cc;
      text = line_read c.args.bytes.now c.in-Some.text.now c.in-Some.rest.now OfProofs c.in-Some.ensures ∙ ap (λ ws. (words_text ws ++ []) ++ c.in-Some.rest.now) ps.1;
    }
