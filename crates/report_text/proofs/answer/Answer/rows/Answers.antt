use Rattle.std.proofs.Common.{◌∙◌, ap, sym, length}
use Rattle.std.specs.Option.{option_copied}
use Rattle.report_text.specs.Report.{lattice_lines}
use Rattle.report_text.proofs.LinesLaws.{length-lattice_lines}
use Rattle.report_text.proofs.answer.Answer.rows.Goals as goal

pub returns-in-Some-clause-count : goal.returns-in-Some-clause-count
returns-in-Some-clause-count c =
    c.rows.ensures.same ∙ ap (λ s. s.rows) c.shape.ensures ∙ length-lattice_lines c.in-Some.grid.now
    ∙ ap (λ o. length (lattice_lines o)) (ap option_copied (sym c.in-Some.is) ∙ c.grid.ensures)
