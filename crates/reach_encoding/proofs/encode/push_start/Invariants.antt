use Rattle.std.proofs.Common.{◌+◌, ◌*◌, map}
use Rattle.reach_encoding.specs.Encoding.{below}
use Rattle.reach_encoding.specs.EncodeParts.{Adds, start_clause}
use Rattle.reach_encoding.proofs.encode.push_start.Given as goal

abbrev pub invariant-loop-i : goal.invariant-loop-i
invariant-loop-i l = Adds l.initial.formula l.formula (map (λ i. start_clause l.task l.time l.through (l.line.first + i * l.line.step)) (below l.i))
