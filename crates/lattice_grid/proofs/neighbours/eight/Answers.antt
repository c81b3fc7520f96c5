use Rattle.std.proofs.Common.{rules}
use Rattle.lattice_grid.proofs.NeighbourLaws.{eight_neighbours_read}
use Rattle.lattice_grid.proofs.neighbours.eight.Goals as goal

pub returns-clause-neighbours : goal.returns-clause-neighbours
returns-clause-neighbours c = eight_neighbours_read c.args.shape c.args.p _ (search rules)
