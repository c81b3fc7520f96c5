use Rattle.journal_text.proofs.ReadLaws.{rails_none}
use Rattle.journal_text.proofs.reader.rails_at.Goals as goal

pub returns-in-One : goal.returns-in-One
returns-in-One c = rw c.in-One.is (rails_none c.args.bytes.now)
