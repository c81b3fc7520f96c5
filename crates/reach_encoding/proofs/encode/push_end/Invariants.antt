use Rattle.std.proofs.Common.{◌+◌, ◌*◌, map}
use Rattle.reach_encoding.specs.Encoding.{below}
use Rattle.reach_encoding.specs.EncodeParts.{Adds, end_clause}
use Rattle.reach_encoding.proofs.encode.push_end.Given as goal

abbrev pub invariant-loop-i : goal.invariant-loop-i
invariant-loop-i l = Adds l.initial.formula l.formula (map (λ i. end_clause l.task l.time (l.line.first + i * l.line.step)) (below l.i))
