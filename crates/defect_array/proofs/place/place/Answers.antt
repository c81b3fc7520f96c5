use Rattle.std.proofs.Common.{◌≡◌, sym, ◌∙◌, subst}
use Rattle.journal_text.specs.declared.target.Target.TheVariants.{Marked}
use Rattle.lattice_question.specs.Asked.{SectionSo}
use Rattle.lattice_question.specs.Written.{StoppedAsking}
use Rattle.defect_array.specs.declared.place.PlaceFault.TheVariants.{Sink}
use Rattle.defect_array.proofs.Placed.{searched_here, stopped_behind}
use Rattle.defect_array.proofs.place.place.Goals as goal

pub returns-in_default-proofs_of-clause-stopped : goal.returns-in_default-proofs_of-clause-stopped
returns-in_default-proofs_of-clause-stopped g c =
    let got = g.K.Sink.got in
    let faults = g.K.Sink.faults in
    let sink = c.in-Ok.asked.writer.sink in
    let OfSink = c.out_of_memory.result.fault ≡ Sink in
    subst (λ held. StoppedAsking c.args.output (got c.args.writer.sink) (got held) (faults c.args.writer.sink) (faults held) OfSink) (sym (c.out_of_memory.ensures.held ∙ c.into_sink.ensures))
    (stopped_behind c.args.output (Marked c.args.array) (SectionSo c.all.result c.args.spec.now c.args.budget c.in-Ok.asked.outcome) (got c.args.writer.sink) (got sink) (faults c.args.writer.sink) (faults sink) OfSink
    (λ k. cc (sym c.out_of_memory.ensures.fault ∙ k)) c.in-Ok.ensures.adds c.in-Ok.ensures.later)

pub returns-clause-searched : goal.returns-clause-searched
returns-clause-searched g c =
    searched_here c.all.result c.args.output c.args.spec.now c.args.budget c.args.array c.in-Marked.array c.in-Ok.asked.outcome (g.K.Sink.got c.args.writer.sink) (g.K.Sink.got c.in-Ok.asked.writer.sink) c.answer_of.result
    c.in-Ok-proofs_of.proofs.items c.all.ensures.bits c.in-Marked.is c.answer_of.ensures c.in-Ok-proofs_of.ensures c.in-Ok.ensures.so c.in-Ok.ensures.adds
