use Rattle.pla_reader.proofs.SomeLaws.{some_reading}
use Rattle.pla_reader.proofs.laws.some_reading.Goals as goal

pub returns : goal.returns
returns c = some_reading
