use Rattle.std.proofs.Common.{◌≡◌, take}
use Rattle.clause_core.specs.Literal.{has}
use Rattle.lrat_replay.specs.Marks.{known_of, room}
use Rattle.lrat_replay.proofs.subset.mark_all.Given as goal

abbrev pub invariant-loop-lit : goal.invariant-loop-lit
invariant-loop-lit l = record { marked : known_of l.marks ≡ has (take l.lit-index l.clause); same_room : room l.marks ≡ room l.fn.marks }
