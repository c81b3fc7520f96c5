use Rattle.path_meaning.proofs.Refuted.{joined_refuted, cut_refuted}
use Rattle.path_meaning.proofs.laws.closed_sets.Goals as goal

pub returns-clause-joined : goal.returns-clause-joined
returns-clause-joined c = joined_refuted

pub returns-clause-cut : goal.returns-clause-cut
returns-clause-cut c = cut_refuted
