use Rattle.lrat_replay.proofs.LearnedLaws.{Learns-append, count_full-append, AllTellPropagation-append, spent_written, end_sound}
use Rattle.lrat_replay.proofs.steps_together.Goals as goal

pub returns : goal.returns
returns c = record { learn = Learns-append; count = count_full-append; tell = AllTellPropagation-append; spent = spent_written; end = end_sound }
