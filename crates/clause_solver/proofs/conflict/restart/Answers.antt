use Rattle.std.proofs.Common.{inl, inr, arith}
use Rattle.clause_solver.specs.Trail.{IsDecidedAt}
use Rattle.clause_solver.proofs.Restarting.{working_restarted}
use Rattle.clause_solver.proofs.conflict.restart.Goals as goal

pub returns-in_ok-release-clause-working : goal.returns-in_ok-release-clause-working
returns-in_ok-release-clause-working c =
    let at : IsDecidedAt c.args.work.now.trail.values c.next_decision-first.result = elim c.next_decision-first.ensures.ends [ inl e ↦ absurd (omega (arith, e, c.if-first-count.true)) | inr d ↦ d ] in
    working_restarted c.args.work.now c.requires.working c.next_decision-first.result at c.back.new.self c.back.ensures
