use Rattle.std.proofs.Common.{map}
use Rattle.std.specs.List.{flat_map}
use Rattle.reach_encoding.specs.Encoding.{below, next_eight}
use Rattle.reach_encoding.specs.EncodeParts.{Adds, step_clause}
use Rattle.reach_encoding.proofs.encode.push_eight_steps.Given as goal

abbrev pub invariant-loop-cell : goal.invariant-loop-cell
invariant-loop-cell l = Adds l.initial.formula l.formula (flat_map (λ p. map (step_clause l.task l.time l.through p) (next_eight l.task.size p)) (below l.cell))
