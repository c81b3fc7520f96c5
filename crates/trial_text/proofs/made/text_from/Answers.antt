use Rattle.trial_text.proofs.Drawing.{row_drawn, text_ended}
use Rattle.trial_text.proofs.made.text_from.Goals as goal

pub loop-preserved : goal.loop-preserved
loop-preserved g c = row_drawn 24 _ _ _ _ _ _ c.loop-test.true c.in_ok-push_row.ensures.left c.in_ok-push_row.ensures.text c.loop.invariant

pub returns : goal.returns
returns g c = text_ended _ _ _ _ _ c.loop-test.false c.loop.invariant c.in_ok-extend_from_slice.ensures.items
