use Rattle.std.proofs.Common.{sym, ◌∙◌}
use Rattle.lattice_grid.proofs.StartLaws.{can_tell_all}
use Rattle.lattice_grid.proofs.start.lattice_or_pair.Goals as goal

pub cells_between-requires-clause-told : goal.cells_between-requires-clause-told
cells_between-requires-clause-told c = can_tell_all c.args.literals.now c.args.ons.now c.args.offs.now c.requires.inputs c.requires.few_ons c.requires.few_offs (sym c.lacking.ensures ∙ c.in_default.is)
