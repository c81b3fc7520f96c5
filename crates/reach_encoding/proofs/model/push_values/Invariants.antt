use Rattle.std.proofs.Common.{◌≡◌, ◌++◌, take, option_copied}
use Rattle.std.specs.List.{flat_map}
use Rattle.reach_encoding.specs.declared.flood.Side.TheVariants.{Down}
use Rattle.reach_encoding.specs.ModelOf.{free_cells_of}
use Rattle.reach_encoding.proofs.model.push_values.Given as goal

abbrev pub invariant-loop-x : goal.invariant-loop-x
invariant-loop-x l = l.values.items ≡ l.initial.values.items ++ flat_map (free_cells_of l.grid (option_copied l.array) Down) (take l.x-index l.asked)
