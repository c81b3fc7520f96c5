use Rattle.std.proofs.Common.{map}
use Rattle.reach_encoding.specs.Encoding.{below}
use Rattle.reach_encoding.specs.EncodeParts.{Adds, choice_clause}
use Rattle.reach_encoding.proofs.encode.push_choices.Given as goal

abbrev pub invariant-loop-cell : goal.invariant-loop-cell
invariant-loop-cell l = Adds l.initial.formula l.formula (map (choice_clause l.task) (below l.cell))
