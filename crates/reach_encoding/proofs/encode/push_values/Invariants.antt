use Rattle.std.specs.List.{flat_map}
use Rattle.path_meaning.specs.Defective.{defect_in}
use Rattle.reach_encoding.specs.Encoding.{below, place_of, values_with}
use Rattle.reach_encoding.specs.EncodeParts.{Adds}
use Rattle.reach_encoding.proofs.encode.push_values.Given as goal

abbrev pub invariant-loop-cell : goal.invariant-loop-cell
invariant-loop-cell l = Adds l.initial.formula l.formula (flat_map (λ p. values_with l.task (defect_in l.task.array (place_of l.task.size p)) p) (below l.cell))
