use Rattle.journal_text.proofs.GivesLaws.{one_answer}
use Rattle.journal_text.proofs.read.one_answer.Goals as goal

pub returns : goal.returns
returns c = one_answer
