use Rattle.clause_solver.specs.Trail.{unassigned}
use Rattle.clause_solver.proofs.Propagation.{IsProgress}
use Rattle.clause_solver.proofs.plain.scan_all.Given as goal

abbrev pub invariant-loop-index : goal.invariant-loop-index
invariant-loop-index l = IsProgress l.clauses l.fn.trail.vars (unassigned l.fn.trail) l.trail l.forced l.index
