use Rattle.path_meaning.proofs.Fits.{fitting}
use Rattle.path_meaning.proofs.Larger.{repeat_joined, realised_larger}
use Rattle.path_meaning.proofs.laws.fitting.Goals as goal

pub returns-clause-cells : goal.returns-clause-cells
returns-clause-cells c = fitting

pub returns-clause-repeated : goal.returns-clause-repeated
returns-clause-repeated c = repeat_joined

pub returns-clause-realised : goal.returns-clause-realised
returns-clause-realised c = realised_larger
