use Rattle.std.proofs.Common.{refl}
use Rattle.clause_solver.proofs.Steps.{spent_undecided}
use Rattle.clause_solver.proofs.search.end_at_conflict.Goals as goal

pub returns-then-left-eq0-clause-so : goal.returns-then-left-eq0-clause-so
returns-then-left-eq0-clause-so g c = record {
  none = c.if-left-eq0.true;
  goes = record { ready = c.requires.goes.ready; reasons = c.requires.goes.reasons };
  book = refl;
  undecided = spent_undecided (g.L.Ledger.book c.args.ledger.now) c.args.work.now.clauses c.requires.goes.ready.copy c.args.work.now.trail.values c.last_decision.ensures.fresh c.requires.goes.reasons c.in-Some.ensures.some;
}
