use Rattle.std.proofs.Common.{rules}
use Rattle.shape_list.proofs.StairLaws.{step_is}
use Rattle.shape_list.proofs.stair.step_from.Goals as goal

pub returns-clause-step : goal.returns-clause-step
returns-clause-step c = step_is c.args.area c.args.rows c.unwrap.result c.requires.some c.requires.within c.requires.few (search rules) (search rules)
