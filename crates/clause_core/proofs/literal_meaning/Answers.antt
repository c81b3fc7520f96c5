use Rattle.clause_core.proofs.Literals.{by_variable_and_sign, has_its_literals}
use Rattle.clause_core.proofs.literal_meaning.Goals as goal

pub returns : goal.returns
returns c = record { literal = by_variable_and_sign; clause = has_its_literals }
