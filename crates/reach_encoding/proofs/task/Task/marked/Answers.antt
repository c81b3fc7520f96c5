use Rattle.std.proofs.Common.{arith, rules}
use Rattle.reach_encoding.proofs.EncodeNumbers.{value_low, mark_low, mark_over}
use Rattle.reach_encoding.proofs.task.Task.marked.Goals as goal

pub overflow_mul-many : goal.overflow_mul-many
overflow_mul-many c = omega (arith, mark_low _ c.cells-cells.ensures.question c.args.cell c.args.time _ _ _ c.cells-cells.ensures.same c.controls.ensures.same c.many.ensures.same c.requires.cell c.requires.time)

pub overflow_add-cells : goal.overflow_add-cells
overflow_add-cells c = omega (arith, mark_low _ c.cells-cells.ensures.question c.args.cell c.args.time _ _ _ c.cells-cells.ensures.same c.controls.ensures.same c.many.ensures.same c.requires.cell c.requires.time)

pub overflow_mul-time : goal.overflow_mul-time
overflow_mul-time c = omega (arith, mark_low _ c.cells-cells.ensures.question c.args.cell c.args.time _ _ _ c.cells-cells.ensures.same c.controls.ensures.same c.many.ensures.same c.requires.cell c.requires.time)

pub overflow_add-cells-2 : goal.overflow_add-cells-2
overflow_add-cells-2 c = omega (arith, mark_low _ c.cells-cells.ensures.question c.args.cell c.args.time _ _ _ c.cells-cells.ensures.same c.controls.ensures.same c.many.ensures.same c.requires.cell c.requires.time)

pub overflow_add-cells-3 : goal.overflow_add-cells-3
overflow_add-cells-3 c = omega (arith, mark_low _ c.cells-cells.ensures.question c.args.cell c.args.time _ _ _ c.cells-cells.ensures.same c.controls.ensures.same c.many.ensures.same c.requires.cell c.requires.time)

pub overflow_add-cells-4 : goal.overflow_add-cells-4
overflow_add-cells-4 c = omega (arith, mark_low _ c.cells-cells.ensures.question c.args.cell c.args.time _ _ _ c.cells-cells.ensures.same c.controls.ensures.same c.many.ensures.same c.requires.cell c.requires.time)

pub new-requires-clause-within : goal.new-requires-clause-within
new-requires-clause-within c = omega (arith, mark_low _ c.cells-cells.ensures.question c.args.cell c.args.time _ _ _ c.cells-cells.ensures.same c.controls.ensures.same c.many.ensures.same c.requires.cell c.requires.time)

pub returns-clause-over : goal.returns-clause-over
returns-clause-over c = mark_over c.args.self.now c.args.cell c.args.time c.args.marked _ (search rules) c.requires.cell c.requires.time

pub overflow_mul-cells : goal.overflow_mul-cells
overflow_mul-cells c = omega (arith, value_low _ c.cells-cells.ensures.question c.args.cell c.args.time _ _ c.cells-cells.ensures.same c.controls.ensures.same c.requires.cell c.requires.time)
