use Rattle.std.proofs.Common.{sym, subst}
use Rattle.cube_core.specs.Cube.{Product, Meet}
use Rattle.dual_product.proofs.dual.push_row.Goals as goal

pub literal_against-requires : goal.literal_against-requires
literal_against-requires c = subst (λ (on : Product). Meet on c.args.off.now → ⊥) (sym c.on-item.is) (c.requires c.loop-on.on-index c.on-item.result c.loop-on-test.true)
