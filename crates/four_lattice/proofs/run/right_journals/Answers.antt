use Rattle.four_lattice.proofs.JudgeLaws.{is_confirmed}
use Rattle.four_lattice.proofs.run.right_journals.Goals as goal

pub returns : goal.returns
returns c = is_confirmed
