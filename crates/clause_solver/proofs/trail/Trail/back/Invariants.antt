use Rattle.std.proofs.Common.{◌≡◌, ◌≤◌, length}
use Rattle.clause_solver.specs.Trail.{oldest}
use Rattle.clause_solver.proofs.trail.Trail.back.Given as goal

abbrev pub invariant-loop-self : goal.invariant-loop-self
invariant-loop-self l = record {
  within : l.place ≤ length l.self.values;
  vars_is : l.self.vars ≡ l.initial.self.vars;
  values_are : l.self.values ≡ oldest (length l.self.values) l.initial.self.values;
}

abbrev pub decreases-loop-self : goal.decreases-loop-self
decreases-loop-self l = length l.self.values
