use Rattle.audit_core.proofs.StepLaws.{stops_as, replays_as}
use Rattle.audit_core.proofs.section.replay_steps.Goals as goal

pub returns-in-Err-clause-refused : goal.returns-in-Err-clause-refused
returns-in-Err-clause-refused c =
    stops_as c.args.replay.now c.loop-line.replay c.args.steps.now c.loop-line.line-index c.line-item.result c.in-Err.fault c.as_slice.result.now c.as_slice-in-loop-line.result.now c.refusal_at.result c.loop-line-test.true c.line-item.is c.loop-line.invariant
    c.as_slice.ensures c.as_slice-in-loop-line.ensures c.in-Err.ensures.refused c.refusal_at.ensures

pub loop-line-preserved : goal.loop-line-preserved
loop-line-preserved c =
    replays_as c.args.replay.now c.loop-line.replay c.step.new.self c.args.steps.now c.loop-line.line-index c.line-item.result c.as_slice.result.now c.as_slice-in-loop-line.result.now c.loop-line-test.true c.line-item.is c.loop-line.invariant
    c.as_slice.ensures c.as_slice-in-loop-line.ensures c.in_default.ensures.accepted c.in_default.ensures.after
