use Rattle.std.proofs.Common.{sym, subst}
use Rattle.std.specs.Prelude.{All}
use Rattle.cube_core.specs.Cube.{Product, Meet}
use Rattle.lattice_grid.proofs.Tools.{flat_map-grown}
use Rattle.dual_product.proofs.dual.rows.Goals as goal

pub push_row-requires : goal.push_row-requires
push_row-requires c = subst (λ (off : Product). All (λ on. Meet on off → ⊥) c.args.ons.now) (sym c.off-item.is) (c.requires c.loop-off.off-index c.off-item.result c.loop-off-test.true)

pub loop-off-preserved : goal.loop-off-preserved
loop-off-preserved c = flat_map-grown _ c.args.offs.now c.loop-off.off-index c.off-item.result _ _ c.loop-off-test.true c.off-item.is c.loop-off.invariant c.in_ok-push_row.ensures
