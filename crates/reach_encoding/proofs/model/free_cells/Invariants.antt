use Rattle.std.proofs.Common.{◌≡◌, option_copied}
use Rattle.reach_encoding.specs.ModelOf.{free_row}
use Rattle.reach_encoding.proofs.model.free_cells.Given as goal

abbrev pub invariant-loop-cell : goal.invariant-loop-cell
invariant-loop-cell l = l.cells.items ≡ free_row l.grid (option_copied l.array) l.side l.x l.cell
