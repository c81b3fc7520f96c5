use Rattle.std.proofs.Common.{◌≡◌, false, take}
use Rattle.lrat_replay.specs.Marks.{known_of, room}
use Rattle.lrat_replay.specs.Book.{denied, some_flip}
use Rattle.lrat_replay.proofs.deny.deny.Given as goal

abbrev pub invariant-loop-lit : goal.invariant-loop-lit
invariant-loop-lit l = record {
  marked : known_of l.marks ≡ denied (take l.lit-index l.clause);
  none : some_flip (take l.lit-index l.clause) (take l.lit-index l.clause) ≡ false;
  same_room : room l.marks ≡ room l.fn.marks;
}
