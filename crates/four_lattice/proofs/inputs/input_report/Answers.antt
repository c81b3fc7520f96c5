use Rattle.std.proofs.Common.{rules, ◌≡◌}
use Rattle.report_text.specs.declared.report.ReportRefusal.TheVariants as refusals
use Rattle.four_lattice.specs.Judge.{IsReportRefused}
use Rattle.four_lattice.specs.Uses.{most_side_bytes}
use Rattle.four_lattice.specs.declared.ending.SideRefusal.TheVariants as sides
use Rattle.four_lattice.specs.declared.ending.Refusal.TheVariants as levels
use Rattle.four_lattice.proofs.InputsLaws.{parse_stops, report_memory}
use Rattle.four_lattice.proofs.inputs.input_report.Goals as goal

pub returns-clause-ends : goal.returns-clause-ends
returns-clause-ends g c =
    parse_stops levels.Side (λ r. r ≡ sides.TooLong) IsReportRefused most_side_bytes _ sides.Report refusals.NoMemory report_memory c.in-Err-read_report.refusal c.ending_of_report.result c.in-Ok.bytes.items c.ending_of_report.ensures.refused c.ending_of_report.ensures.wanting
    c.in-Ok.ensures.all c.in-Ok.ensures.end (search rules) (λ other. search rules)
