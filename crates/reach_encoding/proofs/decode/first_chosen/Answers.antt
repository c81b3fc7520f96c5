use Rattle.std.proofs.Common.{◌∙◌, sym, arith}
use Rattle.reach_encoding.proofs.DecodeLaws.{few_before, chosen_in-first}
use Rattle.reach_encoding.proofs.decode.first_chosen.Goals as goal

pub overflow_mul-before : goal.overflow_mul-before
overflow_mul-before c = omega (arith, few_before c.args.cell c.args.controls c.requires.cell c.requires.few)

pub overflow_add-before : goal.overflow_add-before
overflow_add-before c = omega (arith, few_before c.args.cell c.args.controls c.requires.cell c.requires.few)

pub overflow_add-before-in-loop-control : goal.overflow_add-before-in-loop-control
overflow_add-before-in-loop-control c = omega (arith, few_before c.args.cell c.args.controls c.requires.cell c.requires.few)

pub returns-then-of-clause-first : goal.returns-then-of-clause-first
returns-then-of-clause-first c = chosen_in-first c.args.controls c.args.v.now c.args.cell c.loop-control.control c.loop-control-test.true (sym c.of.ensures ∙ c.if-of.true) c.loop-control.invariant
