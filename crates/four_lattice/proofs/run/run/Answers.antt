use Rattle.four_lattice.proofs.SettledLaws.{judged_words, settles_refusal, settles_task}
use Rattle.four_lattice.proofs.run.run.Goals as goal

pub returns-clause-words : goal.returns-clause-words
returns-clause-words g c = judged_words _ _ _ _ c.answer.ensures.answers

pub returns-clause-refused : goal.returns-clause-refused
returns-clause-refused g c = settles_refusal _ _ _ _ c.answer.ensures.answers

pub returns-clause-done : goal.returns-clause-done
returns-clause-done g c = settles_task _ _ _ _ c.answer.ensures.answers
