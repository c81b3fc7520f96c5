use Rattle.std.proofs.Common.{rules}
use Rattle.lattice_grid.proofs.RisingLaws.{few_read}
use Rattle.lattice_grid.proofs.start.build.Goals as goal

pub lattice_or_pair-requires-clause-few_ons : goal.lattice_or_pair-requires-clause-few_ons
lattice_or_pair-requires-clause-few_ons c = few_read c.args.spec.now c.args.spec.now.on _ c.inputs.ensures.kept (search rules)

pub lattice_or_pair-requires-clause-few_offs : goal.lattice_or_pair-requires-clause-few_offs
lattice_or_pair-requires-clause-few_offs c = few_read c.args.spec.now c.args.spec.now.off _ c.inputs.ensures.kept (search rules)
