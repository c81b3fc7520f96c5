use Rattle.judged_texts.proofs.SomeLaws as laws
use Rattle.judged_texts.proofs.law.some_judgement.Goals as goal

pub returns-clause-some : goal.returns-clause-some
returns-clause-some c = laws.some_judgement c.made_reading.ensures

pub returns-clause-plain : goal.returns-clause-plain
returns-clause-plain c = laws.plain_judgement c.made_reading.ensures
