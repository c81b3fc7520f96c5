use Rattle.report_text.proofs.block.proofs_at.Goals as goal

pub returns-then-follow : goal.returns-then-follow
returns-then-follow c = rw c.if-follow.true c.proofs_line.ensures
