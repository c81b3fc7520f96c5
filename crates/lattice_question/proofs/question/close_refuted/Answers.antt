use Rattle.journal_text.specs.Origin.{origin_of}
use Rattle.journal_text.specs.declared.target.Close.TheVariants.{Refuted}
use Rattle.lattice_question.proofs.Closing.{ends_reached, closed_refuted}
use Rattle.lattice_question.proofs.Sections.{stopped_cut}
use Rattle.lattice_question.proofs.question.close_refuted.Goals as goal

pub refuted-requires-clause-reached : goal.refuted-requires-clause-reached
refuted-requires-clause-reached g c = ends_reached c.args.section.book.steps c.requires.ends

pub returns-in-Ok-clause-closed : goal.returns-in-Ok-clause-closed
returns-in-Ok-clause-closed g c = closed_refuted (g.K.Sink.got c.in-Ok.writer.sink) (origin_of (g.K.Sink.got c.args.section.sink)) c.args.section.book c.steps-steps.result c.steps-steps.ensures.count c.in-Ok.ensures.closed

pub returns-clause-stopped : goal.returns-clause-stopped
returns-clause-stopped g c =
    stopped_cut g.K.Sink.got g.K.Sink.faults c.args.section c.in-Err.stopped.held c.sink_failed.result.held c.sink_failed.result.fault Refuted tt c.requires.unbroken c.steps-steps.ensures.begun c.sink_failed.ensures.held c.in-Err.ensures.cut
