use Rattle.std.proofs.Common.{map}
use Rattle.reach_encoding.specs.Encoding.{below}
use Rattle.reach_encoding.specs.EncodeParts.{Adds, stuck_clause}
use Rattle.reach_encoding.proofs.encode.push_stuck.Given as goal

abbrev pub invariant-loop-time : goal.invariant-loop-time
invariant-loop-time l = Adds l.initial.formula l.formula (map (stuck_clause l.task l.on l.cell) (below l.time))
