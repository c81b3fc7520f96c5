use Rattle.std.proofs.Common.{rules}
use Rattle.lattice_grid.proofs.RisingLaws.{AreApart-read}
use Rattle.lattice_grid.proofs.pairs.build.Goals as goal

pub cells_between-requires-clause-told : goal.cells_between-requires-clause-told
cells_between-requires-clause-told c = AreApart-read c.args.spec.now c.inputs.ensures.kept _ _ (search rules) (search rules)
