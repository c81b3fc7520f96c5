use Rattle.std.proofs.Common.{◌∙◌, ap, length, arith}
use Rattle.std.proofs.lemmas.Grind.{common_steps}
use Rattle.dual_product.proofs.DualLaws.{dual_cells-NamesBelow, length-dual_cells}
use Rattle.dual_product.proofs.dual.cells_between.Goals as goal

pub new-requires-2 : goal.new-requires-2
new-requires-2 c = rw c.in_ok-cells.ensures (dual_cells-NamesBelow c.args.ons.now c.args.offs.now c.requires.apart)

pub unwrap-requires : goal.unwrap-requires
unwrap-requires c = let many = ap length c.in_ok-cells.ensures ∙ length-dual_cells c.args.ons.now c.args.offs.now in grind (arith, common_steps)
