use Rattle.std.proofs.Common.{◌≡◌, ◌≤◌}
use Rattle.clause_solver.specs.Trail.{unassigned}
use Rattle.clause_solver.specs.Plain.{HaveReasons}
use Rattle.clause_solver.proofs.plain.propagate.Given as goal

abbrev pub invariant-loop-place : goal.invariant-loop-place
invariant-loop-place l = record {
  reasons : HaveReasons l.clauses l.trail.values;
  vars : l.trail.vars ≡ l.fn.trail.vars;
  fewer : unassigned l.trail ≤ unassigned l.fn.trail;
}

abbrev pub decreases-loop-place : goal.decreases-loop-place
decreases-loop-place l = unassigned l.trail
