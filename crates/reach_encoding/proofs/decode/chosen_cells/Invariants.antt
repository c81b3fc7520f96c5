use Rattle.std.proofs.Common.{◌≡◌, length, map, get_or}
use Rattle.lattice_grid.specs.declared.control.Control.TheVariants.{Zero}
use Rattle.reach_encoding.specs.Encoding.{below}
use Rattle.reach_encoding.specs.Decode.{chosen_in}
use Rattle.reach_encoding.proofs.decode.chosen_cells.Given as goal

abbrev pub invariant-loop-cell : goal.invariant-loop-cell
invariant-loop-cell l = l.cells.items ≡ map (λ p. get_or l.allowed (chosen_in (length l.allowed) l.v p) Zero) (below l.cell)
