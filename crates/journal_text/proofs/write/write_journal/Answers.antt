use Rattle.report_text.proofs.Tools.{flushed_front}
use Rattle.journal_text.proofs.write.write_journal.Goals as goal

pub returns-clause-front : goal.returns-clause-front
returns-clause-front g c = flushed_front _ _ _ _ _ _ _ _ tt c.new-buffer.ensures c.in_ok-put_journal.ensures c.flush.ensures.front
