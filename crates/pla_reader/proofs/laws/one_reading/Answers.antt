use Rattle.pla_reader.proofs.AnswersLaws.{Reads-once}
use Rattle.pla_reader.proofs.laws.one_reading.Goals as goal

pub returns : goal.returns
returns c = Reads-once
