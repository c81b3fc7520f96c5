use Rattle.std.proofs.Common.{◌-◌, length}
use Rattle.clause_solver.specs.Watch.{count}
use Rattle.clause_solver.specs.Watching.{IsWorking, HasAdvanced}
use Rattle.clause_solver.proofs.propagate.settle_rest.Given as goal

abbrev pub invariant-loop-work : goal.invariant-loop-work
invariant-loop-work l = record {
  working : IsWorking l.work;
  advanced : HasAdvanced l.fn.work l.work;
}

abbrev pub decreases-loop-work : goal.decreases-loop-work
decreases-loop-work l = length l.work.clauses - count l.work.watches
