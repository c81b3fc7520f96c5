use Rattle.std.proofs.Common.{◌≡◌, ◌+◌, length, map, pos, ◌∙◌, sym, ap, subst, None}
use Rattle.std.specs.Prelude.{All}
use Rattle.lrat_replay.specs.Book.{addition_fault, after_addition}
use Rattle.lrat_replay.specs.Ledger.{IsAbove0}
use Rattle.clause_solver.specs.Copy.{IsCopy}
use Rattle.clause_solver.proofs.CopyLaws.{copy_accepts, copy_more, not_above, hints_above}
use Rattle.clause_solver.proofs.learn.learn.Goals as goal

pub learn-requires-clause-hints : goal.learn-requires-clause-hints
learn-requires-clause-hints g c = subst (All IsAbove0) (sym (c.deref.ensures.value ∙ c.in_ok-sign.ensures)) (hints_above c.args.clauses.now c.args.ids.now c.requires.numbers)

pub learn-requires-clause-accepted : goal.learn-requires-clause-accepted
learn-requires-clause-accepted g c =
    let book = g.L.Ledger.book c.args.ledger.now in
    let accepted = copy_accepts book c.args.clauses.now c.requires.copy c.args.clause.now (map pos c.args.ids.now) c.requires.accepted (not_above book.formula.vars c.args.clause.now c.requires.over) c.requires.no_tautology c.requires.few in
    subst (λ n. addition_fault book (n + 1) c.args.clause.now c.deref.result.now ≡ None) (sym c.len.ensures)
    (subst (λ hs. addition_fault book (length c.args.clauses.now + 1) c.args.clause.now hs ≡ None) (sym (c.deref.ensures.value ∙ c.in_ok-sign.ensures)) accepted)

pub returns-clause-copy : goal.returns-clause-copy
returns-clause-copy g c =
    let book = g.L.Ledger.book c.args.ledger.now in
    let learned = c.in_ok-learn.ensures.ok ∙ ap (λ n. after_addition book (n + 1) c.args.clause.now) c.len.ensures in
    subst (λ b. IsCopy b c.push.new.self) (sym learned)
    (subst (λ cs. IsCopy (after_addition book (length c.args.clauses.now + 1) c.args.clause.now) cs) (sym c.in_ok-push.ensures.ok) (copy_more book c.args.clauses.now c.requires.copy c.args.clause.now))
