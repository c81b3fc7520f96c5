use Rattle.std.proofs.Common.{subst}
use Rattle.clause_solver.specs.Trail.{Track, AreFresh}
use Rattle.clause_solver.proofs.trail.Trail.vars.Goals as goal

pub returns-clause-fresh : goal.returns-clause-fresh
returns-clause-fresh c = subst (λ (t : Track). AreFresh t.values) c.self.view_is c.self.invariant.fresh
