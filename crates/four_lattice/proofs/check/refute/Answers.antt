use Rattle.std.proofs.Common.{refl}
use Rattle.four_lattice.proofs.CheckLaws.{text_refused}
use Rattle.four_lattice.proofs.check.refute.Goals as goal

pub returns-in-Ok-Refused-clause-ends : goal.returns-in-Ok-Refused-clause-ends
returns-in-Ok-Refused-clause-ends c =
    text_refused c.args.formula c.in-Ok.replay c.replay_text.new.replay c.args.text.now c.in-Ok-Refused.fault c.in-Ok-Refused.line _ c.in-Ok.ensures (rw c.in-Ok-Refused.field-0-is at c.in-Ok-Refused.ensures.ok) refl
