use Rattle.std.proofs.Common.{Err, refl}
use Rattle.report_text.proofs.Tools.{IsPut-more, IsPut-stop}
use Rattle.journal_text.proofs.WriteLaws.{line_next}
use Rattle.journal_text.proofs.write.put_steps.Goals as goal

pub returns-in_err-put_step : goal.returns-in_err-put_step
returns-in_err-put_step g c =
    IsPut-stop _ _ _ _ _ _ _ _ _ (Err c.in_err-put_step.field-0.0) c.from_residual.result _ _ _ _ refl c.from_residual.ensures.0 c.loop-line.invariant
    (line_next c.args.steps.now c.loop-line.line-index c.line-item.result c.as_slice.result.now c.as_slice-in-loop-line.result.now c.loop-line-test.true c.line-item.is c.as_slice.ensures c.as_slice-in-loop-line.ensures)
    (record { ok = tt; front = c.in_err-put_step.ensures.front; cause = c.in_err-put_step.ensures.cause })

pub loop-line-preserved : goal.loop-line-preserved
loop-line-preserved g c =
    IsPut-more _ _ _ _ _ _ _ _ _ tt _ _ _ _ c.loop-line.invariant
    (line_next c.args.steps.now c.loop-line.line-index c.line-item.result c.as_slice.result.now c.as_slice-in-loop-line.result.now c.loop-line-test.true c.line-item.is c.as_slice.ensures c.as_slice-in-loop-line.ensures)
    (record { ok = c.in_ok-put_step.ensures.ok; front = c.in_ok-put_step.ensures.front; cause = c.in_ok-put_step.ensures.cause })
