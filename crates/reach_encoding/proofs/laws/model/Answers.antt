use Rattle.reach_encoding.proofs.ModelLaws.{has_model}
use Rattle.reach_encoding.proofs.laws.model.Goals as goal

pub returns : goal.returns
returns c = has_model
