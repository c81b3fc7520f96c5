use Rattle.path_meaning.proofs.Least.{at_least_one, either_or}
use Rattle.path_meaning.proofs.Never.{never_both}
use Rattle.path_meaning.proofs.laws.crossing.Goals as goal

pub returns-clause-at_least_one : goal.returns-clause-at_least_one
returns-clause-at_least_one c = at_least_one

pub returns-clause-never_both : goal.returns-clause-never_both
returns-clause-never_both c = never_both

pub returns-clause-either_or : goal.returns-clause-either_or
returns-clause-either_or c = either_or
