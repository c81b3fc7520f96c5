use Rattle.std.proofs.Common.{◌-◌}
use Rattle.clause_solver.proofs.Propagation.{all_over}
use Rattle.clause_solver.proofs.analyse.reason_to_drop.Goals as goal

pub is_covered-requires : goal.is_covered-requires
is_covered-requires c = all_over c.args.trail.now.vars c.args.clauses.now (c.in_ok-id.id - 1) c.clause-clause.result.now c.requires.over c.clause-clause.ensures
