use Rattle.clause_solver.specs.Trail.{known_by, AreValued}
use Rattle.clause_solver.proofs.decide.least_unassigned.Given as goal

abbrev pub invariant-loop-before : goal.invariant-loop-before
invariant-loop-before l = AreValued l.before (known_by l.trail.values)
