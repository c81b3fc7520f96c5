use Rattle.audit_core.proofs.StepLaws.{ReplaysTo}
use Rattle.audit_core.proofs.section.replay_steps.Given as goal

abbrev pub invariant-loop-line : goal.invariant-loop-line
invariant-loop-line l = ReplaysTo l.fn.replay l.replay l.steps l.line-index
