use Rattle.std.proofs.Common.{◌≡◌, ◌++◌}
use Rattle.std.specs.List.{flat_map}
use Rattle.reach_encoding.specs.Encoding.{below}
use Rattle.reach_encoding.specs.ModelOf.{choice_row}
use Rattle.reach_encoding.proofs.model.push_choices.Given as goal

abbrev pub invariant-loop-cell : goal.invariant-loop-cell
invariant-loop-cell l = l.values.items ≡ l.initial.values.items ++ flat_map (choice_row l.grid l.controls) (below l.cell)
