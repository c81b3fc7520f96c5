use Rattle.std.proofs.Common.{arith}
use Rattle.std.proofs.lemmas.Result.{err_from_is_err_and}
use Rattle.journal_text.proofs.ReadLaws.{StepsRead-push, steps_bound, cut_shorter, steps_run_out, line_refused}
use Rattle.journal_text.proofs.read.steps_at.Goals as goal

pub returns-in_default : goal.returns-in_default
returns-in_default c = λ other. steps_run_out c.args.bytes.now c.args.first c.loop-text.steps.items c.loop-text.rest.now c.loop-text.line c.loop-text.invariant c.in_default.ensures

pub returns-in_err-close : goal.returns-in_err-close
returns-in_err-close c =
    let p = err_from_is_err_and c.from_residual.result c.from_residual.ensures.1 in
    rw (p.1, p.2) (λ other. line_refused c.args.bytes.now c.args.first c.loop-text.steps.items c.loop-text.rest.now c.in-Some.text.now c.in-Some.after.now c.loop-text.line c.in_err-close.field-0.0 c.loop-text.invariant c.in-Some.ensures (c.in_err-close.ensures other))

pub overflow_add-line : goal.overflow_add-line
overflow_add-line c =
    let few = steps_bound c.args.bytes.now c.args.first c.loop-text.steps.items c.loop-text.rest.now c.loop-text.line c.loop-text.invariant in
    let shorter = cut_shorter c.loop-text.rest.now c.in-Some.text.now c.in-Some.after.now c.in-Some.ensures in
    let room = c.requires in
    omega (arith, few, shorter, room)

pub loop-text-preserved : goal.loop-text-preserved
loop-text-preserved c =
    let step = rw c.in-Step.is at c.in_ok-close.ensures in
    StepsRead-push c.args.bytes.now c.args.first c.loop-text.steps.items c.push.new.self.items c.loop-text.rest.now c.in-Some.text.now c.in-Some.after.now c.loop-text.line c.in-Step.step c.loop-text.invariant c.in-Some.ensures step.0 step.1
    c.in_ok-push-in-Step.ensures.items
