use Rattle.std.proofs.Common.{◌∙◌, sym, ap, subst, length}
use Rattle.std.proofs.lemmas.List.{length-reverse}
use Rattle.clause_solver.specs.Trail.{Track, AreFresh, AreOver}
use Rattle.clause_solver.proofs.trail.Trail.len.Goals as goal

pub returns-clause-count : goal.returns-clause-count
returns-clause-count c = c.len.ensures ∙ c.self.inside.values.ok.0 ∙ sym (length-reverse c.self.inside.values.items) ∙ ap (λ (t : Track). length t.values) c.self.view_is

pub returns-clause-fresh : goal.returns-clause-fresh
returns-clause-fresh c = subst (λ (t : Track). AreFresh t.values) c.self.view_is c.self.invariant.fresh

pub returns-clause-over : goal.returns-clause-over
returns-clause-over c = subst (λ (t : Track). AreOver t.vars t.values) c.self.view_is c.self.invariant.over
