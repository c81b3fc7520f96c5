use Rattle.audit_core.proofs.GoodLaws.{all_good}
use Rattle.audit_core.proofs.laws.good_answers.Goals as goal

pub returns : goal.returns
returns c = all_good c.refuted_sections.ensures.below c.refuted_sections.ensures.on_array c.starts.ensures.last c.plainly.ensures.lattice
