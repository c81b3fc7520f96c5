use Rattle.lattice_grid.specs.Path.{AreFourNeighbours, AreEightNeighbours}
use Rattle.reach_encoding.proofs.ModelOfFlood.{near_within}
use Rattle.reach_encoding.proofs.flood.visit_around.Goals as goal

pub visit_all-requires-clause-places : goal.visit_all-requires-clause-places
visit_all-requires-clause-places c = near_within c.args.shape AreFourNeighbours c.args.p c.as_slice.result.now c.four-near.result.items c.as_slice.ensures.value c.four-near.ensures.neighbours

pub visit_all-requires-in-Across-clause-places : goal.visit_all-requires-in-Across-clause-places
visit_all-requires-in-Across-clause-places c =
    near_within c.args.shape AreEightNeighbours c.args.p c.as_slice-in-Across.result.now c.eight-near.result.items c.as_slice-in-Across.ensures.value c.eight-near.ensures.neighbours
