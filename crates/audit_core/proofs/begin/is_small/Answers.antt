use Rattle.std.proofs.Common.{◌↔◌, sym, subst}
use Rattle.std.specs.Prelude.{IsTrue, IfOk}
use Rattle.audit_core.specs.Audit.{IsSmall}
use Rattle.audit_core.proofs.begin.is_small.Goals as goal

pub returns-in-Minimum : goal.returns-in-Minimum
returns-in-Minimum c = subst (λ a. IfOk c.no_larger.result (λ small. IsTrue small ↔ IsSmall c.args.rails c.args.spec.now a)) (sym c.in-Minimum.is) c.no_larger.ensures

pub returns-in-Undecided : goal.returns-in-Undecided
returns-in-Undecided c = subst (λ a. IfOk c.no_larger-in-Undecided.result (λ small. IsTrue small ↔ IsSmall c.args.rails c.args.spec.now a)) (sym c.in-Undecided.is) c.no_larger-in-Undecided.ensures
