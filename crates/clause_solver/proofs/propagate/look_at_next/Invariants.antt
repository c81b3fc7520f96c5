use Rattle.std.proofs.Common.{◌≡◌}
use Rattle.clause_solver.specs.Watching.{IsVisiting, HasAdvanced}
use Rattle.clause_solver.proofs.propagate.look_at_next.Given as goal

abbrev pub invariant-loop-index : goal.invariant-loop-index
invariant-loop-index l = record {
  visiting : IsVisiting l.work l.lost l.index;
  looked : l.work.looked ≡ l.fn.work.looked;
  advanced : HasAdvanced l.fn.work l.work;
}

abbrev pub decreases-loop-index : goal.decreases-loop-index
decreases-loop-index l = l.index
