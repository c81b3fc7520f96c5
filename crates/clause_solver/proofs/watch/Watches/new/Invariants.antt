use Rattle.std.proofs.Common.{◌≡◌, ℕ, [], length}
use Rattle.clause_solver.specs.Watch.{list_at}
use Rattle.clause_solver.proofs.watch.Watches.new.Given as goal

abbrev pub invariant-loop-number : goal.invariant-loop-number
invariant-loop-number l = record {
  many : length l.lists.items ≡ l.number;
  empty : (n : ℕ) → list_at l.lists.items n ≡ [];
}
