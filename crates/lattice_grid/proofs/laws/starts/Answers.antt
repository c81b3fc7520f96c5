use Rattle.lattice_grid.proofs.StartLaws.{lacking_is_first, lacking_is_final, start_right_law}
use Rattle.lattice_grid.proofs.laws.starts.Goals as goal

pub returns : goal.returns
returns c = record { first = lacking_is_first; last = lacking_is_final; right = start_right_law }
