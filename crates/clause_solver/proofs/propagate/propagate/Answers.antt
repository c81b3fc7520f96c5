use Rattle.std.proofs.Common.{◌≤◌, subst}
use Rattle.clause_solver.proofs.Visits.{quiet_rests}
use Rattle.clause_solver.proofs.propagate.propagate.Goals as goal

pub returns-clause-rests : goal.returns-clause-rests
returns-clause-rests c = quiet_rests c.loop-work.work c.loop-work.invariant.working c.loop-work.invariant.settled (subst (λ n. n ≤ c.loop-work.work.looked) c.len.ensures.count c.loop-work-test.false)
