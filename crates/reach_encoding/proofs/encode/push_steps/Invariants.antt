use Rattle.std.proofs.Common.{map, take}
use Rattle.reach_encoding.specs.Encoding.{number_of}
use Rattle.reach_encoding.specs.EncodeParts.{Adds, step_clause}
use Rattle.reach_encoding.proofs.encode.push_steps.Given as goal

abbrev pub invariant-loop-place : goal.invariant-loop-place
invariant-loop-place l = Adds l.initial.formula l.formula (map (λ p. step_clause l.task l.time l.through l.cell (number_of l.task.size p)) (take l.place-index l.next))
