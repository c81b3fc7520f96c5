use Rattle.trial_text.specs.Made.{digit_of}
use Rattle.trial_text.proofs.Drawing.{digit_drawn, digits_end, word_left, words_end}
use Rattle.trial_text.proofs.made.push_digits.Goals as goal

pub loop-preserved : goal.loop-preserved
loop-preserved g c = (
  digit_drawn (digit_of c.args.plane) _ _ _ _ _ _ _ _ c.loop-test.true c.next_u32.ensures (rw c.digit.ensures at c.in_ok-push.ensures.items) c.loop.invariant.0,
  word_left _ _ _ _ _ _ c.loop-test.true c.next_u32.ensures c.loop.invariant.1,
)

pub returns-clause-text : goal.returns-clause-text
returns-clause-text g c = digits_end (digit_of c.args.plane) _ _ _ _ _ _ _ c.loop-test.false c.width-end.ensures c.loop.invariant.0

pub returns-clause-left : goal.returns-clause-left
returns-clause-left g c = words_end _ _ _ _ _ c.loop-test.false c.width-end.ensures c.loop.invariant.1
