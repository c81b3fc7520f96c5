use Rattle.std.proofs.Common.{sym, ◌∙◌}
use Rattle.cover_make.proofs.Tools.{table_of-nil, table_of-grown}
use Rattle.finder_set.proofs.split.table_of.Goals as goal

pub loop-cube-init : goal.loop-cube-init
loop-cube-init c = c.empty-table.ensures ∙ sym (table_of-nil c.args.inputs)

pub loop-cube-preserved : goal.loop-cube-preserved
loop-cube-preserved c = table_of-grown c.args.inputs c.args.cubes.now c.loop-cube.cube-index c.cube-item.result _ _ c.loop-cube-test.true c.cube-item.is c.loop-cube.invariant c.add_cube.ensures
