use Rattle.reach_encoding.proofs.Excluded.{small_enough}
use Rattle.reach_encoding.proofs.laws.small.Goals as goal

pub returns : goal.returns
returns c = small_enough
