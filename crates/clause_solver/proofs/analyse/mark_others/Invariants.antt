use Rattle.std.proofs.Common.{◌≡◌, take}
use Rattle.clause_solver.specs.Met.{seen_of, room}
use Rattle.clause_solver.proofs.Marking.{IsMarkingOthers}
use Rattle.clause_solver.proofs.analyse.mark_others.Given as goal

abbrev pub invariant-loop-lit : goal.invariant-loop-lit
invariant-loop-lit l = record {
  marking : IsMarkingOthers (seen_of l.initial.met l.trail.values) (seen_of l.met l.trail.values) l.one (take l.lit-index l.clause);
  room_is : room l.met ≡ room l.initial.met;
}
