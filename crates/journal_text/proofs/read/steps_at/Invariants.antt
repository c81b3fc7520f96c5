use Rattle.std.proofs.Common.{length}
use Rattle.journal_text.proofs.ReadLaws.{StepsRead}
use Rattle.journal_text.proofs.read.steps_at.Given as goal

abbrev pub invariant-loop-text : goal.invariant-loop-text
invariant-loop-text l = StepsRead l.bytes l.first l.steps.items l.rest l.line

abbrev pub decreases-loop-text : goal.decreases-loop-text
decreases-loop-text l = length l.rest
