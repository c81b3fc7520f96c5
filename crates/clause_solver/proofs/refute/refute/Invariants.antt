use Rattle.std.proofs.Common.{◌≡◌, ◌≤◌, length}
use Rattle.lrat_replay.specs.Marks.{known_of, room}
use Rattle.clause_solver.proofs.AnalysisSteps.{IsRefuting}
use Rattle.clause_solver.proofs.refute.refute.Given as goal

abbrev pub invariant-loop-place : goal.invariant-loop-place
invariant-loop-place l = record {
  within : l.place ≤ length l.trail.values;
  room_is : room l.seen ≡ room l.fn.seen;
  refuting : IsRefuting l.clauses l.trail.values l.place (known_of l.seen) l.hints.items;
}

abbrev pub decreases-loop-place : goal.decreases-loop-place
decreases-loop-place l = l.place
