use Rattle.journal_text.proofs.ReadLaws.{no_rails, rails_read}
use Rattle.journal_text.proofs.reader.rails_line.Goals as goal

pub returns-in-None : goal.returns-in-None
returns-in-None c = no_rails c.args.bytes.now c.in-Some.text.now c.in-Some.rest.now c.in-Some.ensures c.in-None.ensures

pub returns-in-Some-rails_of : goal.returns-in-Some-rails_of
returns-in-Some-rails_of c = (
  c.in-Some-rails_of.ensures.0,
  rails_read c.args.bytes.now c.in-Some.text.now c.in-Some.rest.now c.in-Some-rails_of.rails c.in-Some.ensures c.in-Some-rails_of.ensures.1,
)
