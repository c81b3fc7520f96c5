use Rattle.trial_text.proofs.Drawing.{row_left, row_pushed}
use Rattle.trial_text.proofs.made.push_row.Goals as goal

pub returns-clause-text : goal.returns-clause-text
returns-clause-text g c =
    row_pushed _ _ _ _ _ _ _ c.in_ok-push_digits.ensures.text c.in_ok-push_digits.ensures.left c.in_ok-push.ensures.items c.in_ok-push_digits-2.ensures.text c.in_ok-push-2.ensures.items

pub returns-clause-left : goal.returns-clause-left
returns-clause-left g c = row_left _ _ _ c.in_ok-push_digits.ensures.left c.in_ok-push_digits-2.ensures.left
