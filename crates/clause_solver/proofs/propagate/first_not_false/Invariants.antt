use Rattle.std.proofs.Common.{◌≡◌, true, take}
use Rattle.clause_core.specs.Literal.{Literal, flip, has}
use Rattle.clause_solver.specs.Trail.{known_by}
use Rattle.clause_solver.proofs.propagate.first_not_false.Given as goal

abbrev pub invariant-loop-lit : goal.invariant-loop-lit
invariant-loop-lit l = (x : Literal) → has (take l.lit-index l.clause) x ≡ true → known_by l.trail.values (flip x) ≡ true
