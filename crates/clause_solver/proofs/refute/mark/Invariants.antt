use Rattle.std.proofs.Common.{◌≡◌, take}
use Rattle.lrat_replay.specs.Marks.{known_of, room}
use Rattle.clause_solver.proofs.Marking.{IsMarking}
use Rattle.clause_solver.proofs.refute.mark.Given as goal

abbrev pub invariant-loop-lit : goal.invariant-loop-lit
invariant-loop-lit l = record {
  marking : IsMarking (known_of l.initial.seen) (known_of l.seen) (take l.lit-index l.clause);
  room_is : room l.seen ≡ room l.initial.seen;
}
