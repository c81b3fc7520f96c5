use Rattle.std.proofs.Common.{◌≡◌, ◌≤◌}
use Rattle.clause_solver.specs.Trail.{oldest, before_last, has_decision}
use Rattle.clause_solver.proofs.level.next_decision.Given as goal

abbrev pub invariant-loop-place : goal.invariant-loop-place
invariant-loop-place l = record {
  after : l.from ≤ l.place;
  within : l.place ≤ l.end;
  before : before_last (oldest l.place l.trail.values) ≡ before_last (oldest l.from l.trail.values);
  decided : has_decision (oldest l.place l.trail.values) ≡ has_decision (oldest l.from l.trail.values);
}
