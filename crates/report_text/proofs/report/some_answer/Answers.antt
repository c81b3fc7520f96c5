use Rattle.report_text.proofs.AnswerLaws.{some_answer}
use Rattle.report_text.proofs.report.some_answer.Goals as goal

pub returns : goal.returns
returns c = some_answer
