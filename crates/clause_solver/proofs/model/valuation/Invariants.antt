use Rattle.std.proofs.Common.{◌≡◌, length}
use Rattle.clause_solver.specs.Trail.{known_by, HasValues}
use Rattle.clause_solver.proofs.model.valuation.Given as goal

abbrev pub invariant-loop-before : goal.invariant-loop-before
invariant-loop-before l = record {
  many : length l.values.items ≡ l.before;
  values : HasValues l.before (known_by l.trail.values) l.values.items;
}
