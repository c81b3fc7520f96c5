use Rattle.lattice_grid.proofs.RailsLaws.{all_bits}
use Rattle.lattice_grid.proofs.rails.Rails.all.Goals as goal

pub returns-clause-full : goal.returns-clause-full
returns-clause-full c = all_bits
