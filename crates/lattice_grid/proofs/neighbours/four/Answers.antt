use Rattle.std.proofs.Common.{rules}
use Rattle.lattice_grid.proofs.NeighbourLaws.{four_neighbours_read}
use Rattle.lattice_grid.proofs.neighbours.four.Goals as goal

pub returns-clause-neighbours : goal.returns-clause-neighbours
returns-clause-neighbours c = four_neighbours_read c.args.shape c.args.p _ (search rules)
