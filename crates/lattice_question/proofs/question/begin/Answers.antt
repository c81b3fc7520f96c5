use Rattle.std.proofs.Common.{◌≡◌, sym, ◌∙◌}
use Rattle.journal_text.specs.declared.fault.JournalFault.TheVariants.{Sink}
use Rattle.lattice_question.proofs.Sections.{stopped_held, stopped_refused}
use Rattle.lattice_question.proofs.question.begin.Goals as goal

pub returns-in_default-clause-stopped : goal.returns-in_default-clause-stopped
returns-in_default-clause-stopped g c =
    stopped_held g.K.Sink.got g.K.Sink.faults c.args.output c.args.writer.sink c.out_of_memory.result.held (c.out_of_memory.result.fault ≡ Sink) (λ k. cc (sym c.out_of_memory.ensures.fault ∙ k)) (c.out_of_memory.ensures.held ∙ c.into_sink.ensures)

pub returns-in-Err-clause-stopped : goal.returns-in-Err-clause-stopped
returns-in-Err-clause-stopped g c =
    stopped_refused c.args.output c.args.target.now (g.K.Sink.got c.args.writer.sink) (g.K.Sink.got c.in-Err.stopped.held) (g.K.Sink.faults c.args.writer.sink) (g.K.Sink.faults c.in-Err.stopped.held) c.in-Err.stopped.fault c.requires.output c.requires.target
    c.in-Err.ensures.refused
