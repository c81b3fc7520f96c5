use Rattle.journal_text.proofs.TextLaws.{begins_journal, adds_section, begins_section, adds_answer, joins_parts, joins_front, ends_journal}
use Rattle.journal_text.proofs.written_together.Goals as goal

pub returns : goal.returns
returns c = record { begins = begins_journal; section = adds_section; begun = begins_section; answer = adds_answer; parts = joins_parts; front = joins_front; ends = ends_journal }
