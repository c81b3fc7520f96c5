use Rattle.path_meaning.proofs.Plainly.{realising_plainly, realised_plainly}
use Rattle.path_meaning.proofs.laws.plainly.Goals as goal

pub returns : goal.returns
returns c = record { lattice = realising_plainly; some = realised_plainly }
