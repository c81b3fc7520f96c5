use Rattle.std.proofs.Common.{◌≡◌, ℕ, ◌<◌, true, List, get_or}
use Rattle.clause_core.specs.Literal.{Literal, clause_is_true}
use Rattle.clause_core.specs.Formula.{value_in}
use Rattle.clause_core.proofs.formula.Formula.satisfied_by.Given as goal

abbrev pub invariant-loop-index : goal.invariant-loop-index
invariant-loop-index l = (k : ℕ) (clause : List Literal) → k < l.index → get_or l.self.clauses k clause ≡ clause → clause_is_true (value_in l.valuation) clause ≡ true
