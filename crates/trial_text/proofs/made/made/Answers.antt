use Rattle.trial_text.specs.Made.{made}
use Rattle.trial_text.proofs.made.made.Goals as goal

pub returns : goal.returns
unfolding made
returns c = rw c.from.ensures at rw c.new-rng.ensures at c.text_from.ensures
