use Rattle.four_lattice.proofs.run.end_of_words.Goals as goal

pub returns-in-Ok-clause-finishes : goal.returns-in-Ok-clause-finishes
returns-in-Ok-clause-finishes g c = rw c.in-Ok.ensures.ok c.end_of_job.ensures.finishes

pub returns-in-Ok-clause-finders_used : goal.returns-in-Ok-clause-finders_used
returns-in-Ok-clause-finders_used g c = rw c.in-Ok.ensures.ok c.end_of_job.ensures.finders_used
