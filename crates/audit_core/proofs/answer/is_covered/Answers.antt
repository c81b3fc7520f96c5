use Rattle.std.proofs.Common.{◌↔◌, ◌*◌, sym, ap, ◌∙◌, subst, refl}
use Rattle.std.specs.Prelude.{IsTrue}
use Rattle.lattice_grid.specs.Rectangle.{Size}
use Rattle.journal_text.specs.Least.{area}
use Rattle.audit_core.specs.Audit.{IsCovered}
use Rattle.audit_core.proofs.SoughtLaws.{covered_so}
use Rattle.audit_core.proofs.answer.is_covered.Goals as goal

pub returns-in-Minimum : goal.returns-in-Minimum
returns-in-Minimum c before output keeps =
    subst (λ a. IsTrue c.covered_below.result ↔ IsCovered before output a) (sym c.in-Minimum.is)
    (covered_so c.covered_below.result before output c.args.refuted.now c.area.result (area c.in-Minimum.grid) (c.area.ensures ∙ ap (λ (s : Size). s.rows * s.cols) c.shape.ensures) keeps c.covered_below.ensures)

pub returns-in-Undecided : goal.returns-in-Undecided
returns-in-Undecided c before output keeps =
    subst (λ a. IsTrue c.covered_below-in-Undecided.result ↔ IsCovered before output a) (sym c.in-Undecided.is)
    (covered_so c.covered_below-in-Undecided.result before output c.args.refuted.now c.in-Undecided.least c.in-Undecided.least refl keeps c.covered_below-in-Undecided.ensures)
