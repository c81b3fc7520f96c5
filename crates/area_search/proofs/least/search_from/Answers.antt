use Rattle.std.proofs.Common.{sym, subst, arith}
use Rattle.area_search.specs.Answer.{HoldsOfLattices}
use Rattle.lattice_question.specs.Written.{Searched}
use Rattle.area_search.proofs.Growth.{written_begin}
use Rattle.area_search.proofs.Shown.{holds_at_end, searched_at_end}
use Rattle.area_search.proofs.least.search_from.Goals as goal

pub returns-in-Err-clause-stopped : goal.returns-in-Err-clause-stopped
returns-in-Err-clause-stopped g c =
    let first = g.K.Sink.got c.args.writer.sink in
    let new = c.new-progress.ensures in
    c.in-Err.ensures.stopped first (g.K.Sink.faults c.args.writer.sink) (written_begin c.args.rails c.args.output c.args.spec.now c.args.budget c.new-progress.result first new.refuted new.proofs new.given_up) (omega arith)

pub returns-clause-holds : goal.returns-clause-holds
returns-clause-holds g c =
    subst (HoldsOfLattices c.args.rails c.args.spec.now) (sym c.answer_of.ensures)
    (holds_at_end c.args.rails c.args.spec.now c.search_below.new.progress c.fitting.ensures.realised c.in-Ok.ensures.known c.in-Ok.ended.0 c.args.budget c.in-Ok.ensures.ended)

pub returns-clause-searched : goal.returns-clause-searched
returns-clause-searched g c =
    let first = g.K.Sink.got c.args.writer.sink in
    let got = g.K.Sink.got c.in-Ok.ended.1.sink in
    let new = c.new-progress.ensures in
    let p = c.search_below.new.progress in
    subst (λ answer. Searched c.args.rails c.args.output c.args.spec.now c.args.budget first got answer p.proofs.items) (sym c.answer_of.ensures)
    (searched_at_end c.args.rails c.args.spec.now p c.fitting.ensures.realised c.in-Ok.ensures.known c.args.output c.args.budget first got c.in-Ok.ended.0 c.in-Ok.ensures.ended
    (c.in-Ok.ensures.written first (written_begin c.args.rails c.args.output c.args.spec.now c.args.budget c.new-progress.result first new.refuted new.proofs new.given_up)))
