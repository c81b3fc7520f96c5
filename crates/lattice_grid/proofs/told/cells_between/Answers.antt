use Rattle.std.proofs.Common.{◌∙◌, ap, length, arith}
use Rattle.std.proofs.lemmas.Grind.{common_steps}
use Rattle.lattice_grid.proofs.ToldLaws.{length-told_cells}
use Rattle.lattice_grid.proofs.told.cells_between.Goals as goal

pub unwrap-requires : goal.unwrap-requires
unwrap-requires g c = let many = ap length c.in_ok-cells.ensures.rows ∙ length-told_cells (g.T.Telling.literal c.args.telling.now) c.args.ons.now c.args.offs.now in grind (arith, common_steps)
