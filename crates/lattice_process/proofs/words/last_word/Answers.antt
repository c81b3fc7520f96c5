use Rattle.lattice_process.proofs.LastLaws.{last_copied}
use Rattle.lattice_process.proofs.words.last_word.Goals as goal

pub returns-in-Some : goal.returns-in-Some
returns-in-Some c = last_copied _ c.args.words.now c.in-Some.word.now c.clone.result c.clone.ensures.cases c.in-Some.ensures.value
