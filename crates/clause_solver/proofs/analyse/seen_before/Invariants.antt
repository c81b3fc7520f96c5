use Rattle.std.proofs.Common.{◌≤◌}
use Rattle.clause_solver.specs.Trail.{known_by, oldest}
use Rattle.clause_solver.specs.Met.{seen_of}
use Rattle.clause_solver.specs.Analysis.{IsNoneSeen}
use Rattle.clause_solver.proofs.analyse.seen_before.Given as goal

abbrev pub invariant-loop-below : goal.invariant-loop-below
invariant-loop-below l = record {
  after : l.start ≤ l.below;
  within : l.below ≤ l.place;
  none : IsNoneSeen (known_by (oldest l.below l.trail.values)) (oldest l.place l.trail.values) (seen_of l.met l.trail.values);
}

abbrev pub decreases-loop-below : goal.decreases-loop-below
decreases-loop-below l = l.below
