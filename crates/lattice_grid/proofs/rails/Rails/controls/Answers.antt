use Rattle.std.proofs.Common.{rules}
use Rattle.lattice_grid.specs.Rails.{controls_of}
use Rattle.lattice_grid.proofs.RailsLaws.{controls_stand, MayStand-NamesBelow}
use Rattle.lattice_grid.proofs.rails.Rails.controls.Goals as goal

pub returns-clause-stand : goal.returns-clause-stand
unfolding controls_of
returns-clause-stand c = controls_stand c.args.inputs c.args.self _ (search rules)

pub returns-clause-names : goal.returns-clause-names
unfolding controls_of
returns-clause-names c = MayStand-NamesBelow c.args.inputs c.args.self c.requires _ (controls_stand c.args.inputs c.args.self _ (search rules))
