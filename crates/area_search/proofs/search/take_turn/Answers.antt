use Rattle.std.proofs.Common.{sym, refl, ◌∙◌, subst, ◌<◌, ◌*◌, Some}
use Rattle.lattice_grid.specs.Rectangle.{Size}
use Rattle.journal_text.specs.Least.{area}
use Rattle.lattice_question.specs.Asked.{SectionSo}
use Rattle.area_search.specs.Searched.{StoppedSearch}
use Rattle.area_search.specs.declared.progress.Progress.{Progress}
use Rattle.lattice_question.specs.declared.question.Outcome.TheVariants as outcome
use Rattle.area_search.proofs.Growth.{known_refuted, written_more, shows_refuted, shows_better, shows_given_up, stopped_after, stopped_behind}
use Rattle.area_search.proofs.search.take_turn.Goals as goal

pub returns-in-Err-clause-stopped : goal.returns-in-Err-clause-stopped
returns-in-Err-clause-stopped g c first faults h earlier =
    stopped_after c.args.rails c.args.output c.args.spec.now c.args.budget c.args.progress.now first (g.K.Sink.got c.args.writer.sink) (g.K.Sink.got c.in-Err.stopped.held) faults (g.K.Sink.faults c.args.writer.sink) (g.K.Sink.faults c.in-Err.stopped.held)
    c.in-Err.stopped.fault h earlier c.in-Err.ensures.stopped

pub returns-in-Ok-refute-clause-known : goal.returns-in-Ok-refute-clause-known
returns-in-Ok-refute-clause-known g c =
    let so = rw c.in-Refuted.is at c.in-Ok.ensures.so in
    known_refuted c.args.rails c.args.spec.now c.args.progress.now c.refute.new.self c.args.shape c.in-Refuted.steps c.requires.known so.0 so.1 so.2 c.in-Ok-refute.ensures.refuted c.in-Ok-refute.ensures.proofs c.refute.ensures.best c.refute.ensures.least

pub returns-in-Ok-refute-clause-written : goal.returns-in-Ok-refute-clause-written
returns-in-Ok-refute-clause-written g c first h =
    let old = c.args.progress.now in
    let new = c.refute.new.self in
    written_more c.args.rails c.args.output c.args.spec.now c.args.budget c.args.shape (SectionSo c.args.rails c.args.spec.now c.args.budget (outcome.Refuted c.in-Refuted.steps)) old new first (g.K.Sink.got c.args.writer.sink)
    (g.K.Sink.got c.in-Ok.asked.writer.sink) h (rw c.in-Refuted.is at c.in-Ok.ensures.adds)
    (λ more section of target shows holds. shows_refuted c.args.rails c.args.output c.args.spec.now c.args.budget c.args.shape old new more section of target shows c.in-Refuted.steps c.in-Ok-refute.ensures.refuted c.in-Ok-refute.ensures.proofs
    c.refute.ensures.best c.refute.ensures.given_up holds)

pub returns-in-Err-refute-clause-stopped : goal.returns-in-Err-refute-clause-stopped
returns-in-Err-refute-clause-stopped g c first faults h earlier =
    let got = g.K.Sink.got in
    let sink = c.in-Ok.asked.writer.sink in
    let fault = c.out_of_memory.result.fault in
    subst (λ held. StoppedSearch c.args.output first (got held) faults (g.K.Sink.faults held) fault) (sym (c.out_of_memory.ensures.held ∙ c.into_sink.ensures))
    (stopped_behind c.args.rails c.args.output c.args.spec.now c.args.budget c.args.progress.now first (got c.args.writer.sink) (got sink) faults (g.K.Sink.faults c.args.writer.sink) (g.K.Sink.faults sink) fault h earlier c.args.shape
    (SectionSo c.args.rails c.args.spec.now c.args.budget c.in-Ok.asked.outcome) c.in-Ok.ensures.adds c.in-Ok.ensures.later c.out_of_memory.ensures.fault)

pub returns-in-Satisfied-clause-written : goal.returns-in-Satisfied-clause-written
returns-in-Satisfied-clause-written g c first h =
    let old = c.args.progress.now in
    let grid = c.in-Satisfied.grid in
    let new : Progress = record { best = grid; refuted = old.refuted; proofs = old.proofs; least = old.least; given_up = old.given_up } in
    let so = rw c.in-Satisfied.is at c.in-Ok.ensures.so in
    let smaller : area grid < area old.best = subst (λ (s : Size). s.rows * s.cols < area old.best) (sym so.1) c.requires.smaller in
    written_more c.args.rails c.args.output c.args.spec.now c.args.budget c.args.shape (SectionSo c.args.rails c.args.spec.now c.args.budget (outcome.Satisfied grid)) old new first (g.K.Sink.got c.args.writer.sink) (g.K.Sink.got c.in-Ok.asked.writer.sink) h
    (rw c.in-Satisfied.is at c.in-Ok.ensures.adds)
    (λ more section of target shows holds. shows_better c.args.rails c.args.output c.args.spec.now c.args.budget c.args.shape old new more section of target shows grid refl so.0 so.1 smaller refl refl refl holds)

pub returns-in-Spent-clause-written : goal.returns-in-Spent-clause-written
returns-in-Spent-clause-written g c first h =
    let old = c.args.progress.now in
    let new : Progress = record { best = old.best; refuted = old.refuted; proofs = old.proofs; least = old.least; given_up = Some c.args.shape } in
    written_more c.args.rails c.args.output c.args.spec.now c.args.budget c.args.shape (SectionSo c.args.rails c.args.spec.now c.args.budget outcome.Spent) old new first (g.K.Sink.got c.args.writer.sink) (g.K.Sink.got c.in-Ok.asked.writer.sink) h
    (rw c.in-Spent.is at c.in-Ok.ensures.adds)
    (λ more section of target shows holds. shows_given_up c.args.rails c.args.output c.args.spec.now c.args.budget c.args.shape old new more section of target shows refl refl refl refl holds)
