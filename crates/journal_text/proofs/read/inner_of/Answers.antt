use Rattle.journal_text.proofs.ReadLaws.{no_closing}
use Rattle.journal_text.proofs.WordsLaws.{close_of_words}
use Rattle.journal_text.proofs.read.inner_of.Goals as goal

pub returns-in-None-close_of : goal.returns-in-None-close_of
returns-in-None-close_of c = λ other. no_closing c.args.text.now c.args.line c.in-Closing.ensures c.in-None-close_of.ensures

pub returns-in-Some-close_of : goal.returns-in-Some-close_of
returns-in-Some-close_of c = (c.in-Some-close_of.ensures.0, close_of_words c.args.text.now c.in-Some-close_of.close c.in-Some-close_of.ensures.1)
