use Rattle.std.proofs.Common.{arith, rules}
use Rattle.reach_encoding.proofs.EncodeNumbers.{choice_low, choice_over}
use Rattle.reach_encoding.proofs.task.Task.chosen.Goals as goal

pub overflow_mul-cell : goal.overflow_mul-cell
overflow_mul-cell c = omega (arith, choice_low _ c.controls.ensures.question c.args.cell c.args.control _ c.controls.ensures.same c.requires.cell c.requires.control)

pub overflow_add-cell : goal.overflow_add-cell
overflow_add-cell c = omega (arith, choice_low _ c.controls.ensures.question c.args.cell c.args.control _ c.controls.ensures.same c.requires.cell c.requires.control)

pub overflow_add-cell-2 : goal.overflow_add-cell-2
overflow_add-cell-2 c = omega (arith, choice_low _ c.controls.ensures.question c.args.cell c.args.control _ c.controls.ensures.same c.requires.cell c.requires.control)

pub new-requires-clause-within : goal.new-requires-clause-within
new-requires-clause-within c = omega (arith, choice_low _ c.controls.ensures.question c.args.cell c.args.control _ c.controls.ensures.same c.requires.cell c.requires.control)

pub returns-clause-over : goal.returns-clause-over
returns-clause-over c = choice_over c.args.self.now c.args.cell c.args.control c.args.stands _ (search rules) c.requires.cell c.requires.control
