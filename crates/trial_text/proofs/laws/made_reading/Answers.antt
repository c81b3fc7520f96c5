use Rattle.trial_text.proofs.ReadingLaws.{made_is_read}
use Rattle.trial_text.proofs.laws.made_reading.Goals as goal

pub returns : goal.returns
returns c = made_is_read c.plain_reading.ensures
