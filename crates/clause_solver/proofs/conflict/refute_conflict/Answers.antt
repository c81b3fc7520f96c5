use Rattle.std.proofs.Common.{◌+◌, [], length, map, pos, refl, arith}
use Rattle.clause_core.specs.Formula.{IsOver}
use Rattle.clause_solver.proofs.Steps.{up_to_empty, accepts}
use Rattle.clause_solver.proofs.conflict.refute_conflict.Goals as goal

pub returns-clause-at_most : goal.returns-clause-at_most
returns-clause-at_most g c =
    let book = g.L.Ledger.book c.args.ledger.now in
    let over : IsOver book.formula.vars [] = λ k d h. absurd (omega arith) in
    let accepted = accepts book c.args.work.now.clauses c.requires.ready.copy [] c.in_ok-ids.ids.items c.in_ok-ids.ensures.accepted over refl c.requires.few in
    up_to_empty book (g.L.Ledger.book c.learn.new.ledger) (length c.args.work.now.clauses + 1) (map pos c.in_ok-ids.ids.items) 0 accepted c.learn.ensures.either
