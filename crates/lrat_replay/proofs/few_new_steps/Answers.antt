use Rattle.lrat_replay.proofs.BudgetLaws.{fewer_than_sets}
use Rattle.lrat_replay.proofs.few_new_steps.Goals as goal

pub returns : goal.returns
returns c = fewer_than_sets
