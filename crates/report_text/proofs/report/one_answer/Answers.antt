use Rattle.report_text.proofs.AnswerLaws.{one_answer}
use Rattle.report_text.proofs.report.one_answer.Goals as goal

pub returns : goal.returns
returns c = one_answer
