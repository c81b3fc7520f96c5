use Rattle.std.proofs.Common.{◌≡◌, drop}
use Rattle.lrat_replay.specs.Marks.{known_of, room}
use Rattle.lrat_replay.specs.Book.{live, run}
use Rattle.lrat_replay.proofs.hints.follow.Given as goal

abbrev pub invariant-loop-hint : goal.invariant-loop-hint
invariant-loop-hint l = record {
  rest : run (live l.store) (known_of l.marks) (drop l.hint-index l.hints) ≡ run (live l.store) (known_of l.initial.marks) l.hints;
  same_room : room l.marks ≡ room l.initial.marks;
}
