use Rattle.std.proofs.Common.{◌≡◌, take, drop}
use Rattle.clause_core.specs.Formula.{IsOver}
use Rattle.lrat_replay.specs.Book.{some_above}
use Rattle.lrat_replay.proofs.deny.is_above.Given as goal

abbrev pub invariant-loop-lit : goal.invariant-loop-lit
invariant-loop-lit l = record {
  rest : some_above l.vars (drop l.lit-index l.clause) ≡ some_above l.vars l.clause;
  over : IsOver l.vars (take l.lit-index l.clause);
}
