use Rattle.wire_io.proofs.Tools.{Passes-all_front}
use Rattle.lrat_replay.proofs.write.write_step.Goals as goal

pub returns-clause-front : goal.returns-clause-front
returns-clause-front g c = Passes-all_front _ _ _ _ _ _ c.new-buffer.ensures c.in_ok-put_step.ensures.ok c.flush.ensures.front
