use Rattle.std.proofs.Common.{◌≡◌, drop}
use Rattle.clause_core.specs.Literal.{clause_is_true}
use Rattle.clause_core.specs.Formula.{value_in}
use Rattle.clause_core.proofs.valuation.Valuation.makes_some.Given as goal

abbrev pub invariant-loop-lit : goal.invariant-loop-lit
invariant-loop-lit l = clause_is_true (value_in l.self) (drop l.lit-index l.clause) ≡ clause_is_true (value_in l.self) l.clause
