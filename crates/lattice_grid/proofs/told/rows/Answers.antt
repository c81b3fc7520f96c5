use Rattle.lattice_grid.proofs.Lists.{flat_map-grown}
use Rattle.lattice_grid.proofs.told.rows.Goals as goal

pub loop-off-preserved : goal.loop-off-preserved
loop-off-preserved g c = record {
  rows = flat_map-grown _ c.args.offs.now c.loop-off.off-index c.off-item.result _ _ c.loop-off-test.true c.off-item.is c.loop-off.invariant.rows c.in_ok-push_row.ensures.row;
  inputs = c.in_ok-push_row.ensures.inputs;
}
