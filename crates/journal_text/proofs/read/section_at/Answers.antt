use Rattle.std.proofs.Common.{arith}
use Rattle.std.proofs.lemmas.Result.{err_from_is_err_and}
use Rattle.journal_text.proofs.PartsLaws.{question_refused, section_refused, section_bound, section_part}
use Rattle.journal_text.proofs.read.section_at.Goals as goal

pub returns-in_default : goal.returns-in_default
returns-in_default c = question_refused c.args.text.now c.args.rest.now c.args.line c.requires.lead c.requires.one_line (rw c.in_default.is at c.in_ok-output.ensures)

pub returns-in_err-steps : goal.returns-in_err-steps
returns-in_err-steps c =
    let p = err_from_is_err_and c.from_residual-in_err-steps.result c.from_residual-in_err-steps.ensures.1 in
    let found = rw c.in-Some.is at c.in_ok-output.ensures in
    rw (p.1, p.2) (section_refused c.args.text.now c.args.rest.now c.args.line c.in-Some.output c.in-Some.target c.in_err-steps.field-0.0 c.requires.one_line found.0 found.1 found.2 c.in_err-steps.ensures)

pub overflow_add-result : goal.overflow_add-result
overflow_add-result c =
    let few = section_bound c.args.rest.now _ c.in_ok-steps.steps.items c.in_ok-steps.close c.in_ok-steps.close_line c.in_ok-steps.after.now c.in_ok-steps.ensures in
    let room = c.requires.few in
    omega (arith, few, room)

pub returns : goal.returns
returns c =
    let found = rw c.in-Some.is at c.in_ok-output.ensures in
    section_part c.args.text.now c.args.rest.now c.args.line (record { output = c.in-Some.output; target = c.in-Some.target; steps = c.in_ok-steps.steps; close = c.in_ok-steps.close; close_line = c.in_ok-steps.close_line }) c.in_ok-steps.after.now
    c.requires.one_line found.0 found.1 found.2 c.in_ok-steps.ensures
