use Rattle.std.proofs.Common.{map}
use Rattle.reach_encoding.specs.Encoding.{below}
use Rattle.reach_encoding.specs.EncodeParts.{Adds, value_clause}
use Rattle.reach_encoding.proofs.encode.push_control.Given as goal

abbrev pub invariant-loop-time : goal.invariant-loop-time
invariant-loop-time l = Adds l.initial.formula l.formula (map (value_clause l.task l.cell l.control) (below l.time))
