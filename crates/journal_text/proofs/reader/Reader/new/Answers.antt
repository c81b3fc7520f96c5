use Rattle.std.proofs.Common.{◌∙◌}
use Rattle.journal_text.proofs.PartsLaws.{head_room}
use Rattle.journal_text.proofs.reader.Reader.new.Goals as goal

pub returns : goal.returns
returns c = record {
  rails = c.in_ok-rails.ensures.0;
  whole = c.in_ok-version.ensures ∙ c.in_ok-rails.ensures.1;
  first = c.first_line.ensures;
  few = rw c.first_line.ensures (head_room c.in_ok-version.version c.in_ok-rails.rails c.args.bytes.now c.in_ok-version.rest.now c.in_ok-rails.rest.now c.in_ok-version.ensures c.in_ok-rails.ensures.1 c.requires);
}
