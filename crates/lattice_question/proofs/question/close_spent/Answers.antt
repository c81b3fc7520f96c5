use Rattle.journal_text.specs.declared.target.Close.TheVariants.{Spent}
use Rattle.lattice_question.proofs.Closing.{spent_count, spent_new}
use Rattle.lattice_question.proofs.Sections.{stopped_cut}
use Rattle.lattice_question.proofs.question.close_spent.Goals as goal

pub spent-requires-clause-count : goal.spent-requires-clause-count
spent-requires-clause-count g c = spent_count c.args.section.book c.args.budget c.requires.learns

pub spent-requires-clause-fresh : goal.spent-requires-clause-fresh
spent-requires-clause-fresh g c = spent_new c.args.section.book c.args.budget c.requires.learns

pub returns-in-Err-clause-stopped : goal.returns-in-Err-clause-stopped
returns-in-Err-clause-stopped g c =
    stopped_cut g.K.Sink.got g.K.Sink.faults c.args.section c.in-Err.stopped.held c.sink_failed.result.held c.sink_failed.result.fault (Spent c.args.budget) c.requires.budget c.requires.unbroken c.steps-steps.ensures.begun c.sink_failed.ensures.held
    c.in-Err.ensures.cut
