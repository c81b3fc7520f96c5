use Rattle.std.proofs.Common.{rules}
use Rattle.lattice_grid.proofs.RailsLaws.{literals_stand, MayStand-NamesBelow}
use Rattle.lattice_grid.proofs.rails.Rails.literals.Goals as goal

pub returns-clause-stand : goal.returns-clause-stand
returns-clause-stand c = literals_stand c.args.inputs c.args.self _ (search rules)

pub returns-clause-names : goal.returns-clause-names
returns-clause-names c = MayStand-NamesBelow c.args.inputs c.args.self c.requires _ (literals_stand c.args.inputs c.args.self _ (search rules))
