use Rattle.std.proofs.Common.{arith}
use Rattle.reach_encoding.proofs.EncodeNumbers.{few_of, vars_low}
use Rattle.reach_encoding.proofs.task.Task.vars.Goals as goal

pub overflow_mul-result : goal.overflow_mul-result
overflow_mul-result c = let few = few_of _ c.cells.ensures.question in omega arith

pub overflow_add-result : goal.overflow_add-result
overflow_add-result c = let few = few_of _ c.cells.ensures.question in omega arith

pub overflow_mul-result-2 : goal.overflow_mul-result-2
overflow_mul-result-2 c = omega (arith, vars_low _ c.cells.ensures.question _ _ _ c.cells.ensures.same c.controls.ensures.same c.many.ensures.same)

pub returns-clause-within : goal.returns-clause-within
returns-clause-within c = omega (arith, vars_low _ c.cells.ensures.question _ _ _ c.cells.ensures.same c.controls.ensures.same c.many.ensures.same)
