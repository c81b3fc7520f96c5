use Rattle.std.proofs.Common.{◌≡◌, ◌≤◌, length}
use Rattle.clause_solver.specs.Trail.{oldest, before_last, has_decision}
use Rattle.clause_solver.proofs.level.last_decision.Given as goal

abbrev pub invariant-loop-place : goal.invariant-loop-place
invariant-loop-place l = record {
  within : l.place ≤ length l.trail.values;
  before : before_last (oldest l.place l.trail.values) ≡ before_last l.trail.values;
  decided : has_decision (oldest l.place l.trail.values) ≡ has_decision l.trail.values;
}

abbrev pub decreases-loop-place : goal.decreases-loop-place
decreases-loop-place l = l.place
