use Rattle.journal_text.proofs.GivesLaws.{some_answer}
use Rattle.journal_text.proofs.read.some_answer.Goals as goal

pub returns : goal.returns
returns c = some_answer
