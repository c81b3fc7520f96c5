use Rattle.std.proofs.lemmas.Result.{IfOk-weaker, IfErr-weaker}
use Rattle.std.specs.Prelude.{IfSome}
use Rattle.journal_text.specs.Origin.{origin_of}
use Rattle.wire_io.specs.declared.fault.Stopped.{Stopped}
use Rattle.lattice_question.specs.Asked.{AddsSection, SectionSo}
use Rattle.lattice_question.specs.Closing.{ClosedSo, StoppedSection}
use Rattle.lattice_question.specs.Written.{StoppedQuestion}
use Rattle.journal_text.specs.declared.fault.JournalFault.{JournalFault}
use Rattle.lattice_question.specs.declared.question.Asked.{Asked}
use Rattle.lattice_question.proofs.Sections.{IsBegun, adds_section, stopped_asking, stopped_later}
use Rattle.lattice_question.proofs.question.ask.Goals as goal

pub returns-in-Err-clause-stopped : goal.returns-in-Err-clause-stopped
returns-in-Err-clause-stopped g c =
    let got = g.K.Sink.got in
    let faults = g.K.Sink.faults in
    let begun : IsBegun c.args.output c.args.target.now (got c.args.writer.sink) (got c.in_ok-section.section.sink) = record { few_outputs = c.requires.output; bounds = c.shape_of-shape.ensures.bounds; line = c.in_ok-section.ensures.asked; origin = c.in_ok-section.ensures.origin } in
    stopped_asking c.args.output c.args.target.now (faults c.args.writer.sink) (faults c.in_ok-section.section.sink) (faults c.in-Err.stopped.held) c.in-Err.stopped.fault c.in_ok-section.ensures.later (got c.args.writer.sink) (got c.in_ok-section.section.sink)
    (got c.in-Err.stopped.held) begun c.in-Err.ensures.stopped

pub returns-clause-adds : goal.returns-clause-adds
returns-clause-adds g c =
    let got = g.K.Sink.got in
    let begun : IsBegun c.args.output c.args.target.now (got c.args.writer.sink) (got c.in_ok-section.section.sink) = record { few_outputs = c.requires.output; bounds = c.shape_of-shape.ensures.bounds; line = c.in_ok-section.ensures.asked; origin = c.in_ok-section.ensures.origin } in
    IfOk-weaker c.close.result
    (λ (asked : Asked g.row.K.Denot). IfSome (got asked.writer.sink) (λ bytes. ClosedSo c.args.rails c.args.spec.now c.args.budget c.args.target.now asked.outcome (origin_of (got c.in-Ok.solved.1.sink)) bytes))
    (λ (asked : Asked g.row.K.Denot). AddsSection c.args.output c.args.target.now (got c.args.writer.sink) (got asked.writer.sink) (SectionSo c.args.rails c.args.spec.now c.args.budget asked.outcome))
    (λ asked closed. adds_section c.args.rails c.args.spec.now c.args.budget c.args.output c.args.target.now asked.outcome (got c.args.writer.sink) (got c.in_ok-section.section.sink) (got c.in-Ok.solved.1.sink) (got asked.writer.sink) begun c.in-Ok.ensures.origin closed)
    c.close.ensures.closed

pub returns-clause-stopped : goal.returns-clause-stopped
returns-clause-stopped g c =
    let got = g.K.Sink.got in
    let faults = g.K.Sink.faults in
    let begun : IsBegun c.args.output c.args.target.now (got c.args.writer.sink) (got c.in_ok-section.section.sink) = record { few_outputs = c.requires.output; bounds = c.shape_of-shape.ensures.bounds; line = c.in_ok-section.ensures.asked; origin = c.in_ok-section.ensures.origin } in
    IfErr-weaker c.close.result
    (λ (stopped : Stopped JournalFault g.row.K.Denot). StoppedSection (got c.in-Ok.solved.1.sink) (got stopped.held) (faults c.in-Ok.solved.1.sink) (faults stopped.held) stopped.fault)
    (λ (stopped : Stopped JournalFault g.row.K.Denot). StoppedQuestion c.args.output (got c.args.writer.sink) (got stopped.held) (faults c.args.writer.sink) (faults stopped.held) stopped.fault)
    (λ stopped h. stopped_asking c.args.output c.args.target.now (faults c.args.writer.sink) (faults c.in_ok-section.section.sink) (faults stopped.held) stopped.fault c.in_ok-section.ensures.later (got c.args.writer.sink) (got c.in_ok-section.section.sink) (got stopped.held) begun
    (stopped_later c.args.output c.args.target.now (faults c.in_ok-section.section.sink) (faults c.in-Ok.solved.1.sink) (faults stopped.held) stopped.fault c.in-Ok.ensures.later (got c.in_ok-section.section.sink) (got c.in-Ok.solved.1.sink) (got stopped.held) c.in-Ok.ensures.origin h))
    c.close.ensures.stopped
