use Rattle.pla_reader.proofs.AnswersLaws.{Refused-once}
use Rattle.pla_reader.proofs.laws.one_refusal.Goals as goal

pub returns : goal.returns
returns c = Refused-once
