use Rattle.std.proofs.Common.{refl}
use Rattle.journal_text.specs.Origin.{origin_of}
use Rattle.journal_text.specs.declared.target.Close.TheVariants.{Satisfied}
use Rattle.lattice_question.proofs.Closing.{chooses_so, right_so, closed_satisfied}
use Rattle.lattice_question.proofs.Sections.{stopped_cut, stopped_wanting}
use Rattle.lattice_question.proofs.question.close_satisfied.Goals as goal

pub decode-requires-clause-chosen : goal.decode-requires-clause-chosen
decode-requires-clause-chosen g c =
    chooses_so c.read.ensures.chooses c.args.spec.now c.args.rails c.inputs.result c.args.target.now c.shape_of-shape.result c.args.section.book.formula c.args.valuation.now c.requires.question c.inputs.ensures.same c.shape_of-shape.ensures.size
    c.requires.formula c.requires.satisfies

pub returns-in-Ok-satisfied-clause-right : goal.returns-in-Ok-satisfied-clause-right
returns-in-Ok-satisfied-clause-right g c =
    right_so c.read.ensures.lattice c.args.spec.now c.args.rails c.inputs.result c.args.target.now c.shape_of-shape.result c.args.section.book.formula c.args.valuation.now c.in-Ok.grid c.requires.question c.inputs.ensures.same
    c.shape_of-shape.ensures.size c.requires.formula c.requires.satisfies c.in-Ok.ensures.reads

pub returns-in-Ok-satisfied-clause-closed : goal.returns-in-Ok-satisfied-clause-closed
returns-in-Ok-satisfied-clause-closed g c = closed_satisfied (g.K.Sink.got c.in-Ok-satisfied.writer.sink) (origin_of (g.K.Sink.got c.args.section.sink)) c.args.section.book c.in-Ok-satisfied.ensures.closed

pub returns-in_default-clause-stopped : goal.returns-in_default-clause-stopped
returns-in_default-clause-stopped g c =
    stopped_wanting g.K.Sink.got g.K.Sink.faults c.args.section c.args.section c.into_sink.result c.out_of_memory.result.held c.out_of_memory.result.fault c.out_of_memory.ensures.fault refl c.out_of_memory.ensures.held c.into_sink.ensures.same
    c.into_sink.ensures.begun

pub returns-in-Err-clause-stopped : goal.returns-in-Err-clause-stopped
returns-in-Err-clause-stopped g c =
    stopped_cut g.K.Sink.got g.K.Sink.faults c.args.section c.in-Err.stopped.held c.sink_failed.result.held c.sink_failed.result.fault Satisfied tt c.requires.unbroken c.steps-steps.ensures.begun c.sink_failed.ensures.held c.in-Err.ensures.cut
