use Rattle.pla_reader.proofs.AnswersLaws.{Reads-or_Refused}
use Rattle.pla_reader.proofs.laws.read_or_refused.Goals as goal

pub returns : goal.returns
returns c = Reads-or_Refused
