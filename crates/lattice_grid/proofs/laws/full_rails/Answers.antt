use Rattle.lattice_grid.proofs.StartLaws.{over_full}
use Rattle.lattice_grid.proofs.laws.full_rails.Goals as goal

pub returns : goal.returns
returns c = over_full
