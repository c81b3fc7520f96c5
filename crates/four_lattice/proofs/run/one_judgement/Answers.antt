use Rattle.four_lattice.proofs.JudgeLaws as laws
use Rattle.four_lattice.proofs.run.one_judgement.Goals as goal

pub returns : goal.returns
returns c = laws.one_judgement
