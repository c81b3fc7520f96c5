use Rattle.std.proofs.Common.{[]}
use Rattle.clause_solver.proofs.Propagation.{over_none, over_front}
use Rattle.clause_solver.proofs.tests.add_start.Goals as goal

pub push-requires-clause-over : goal.push-requires-clause-over
push-requires-clause-over c = let vars = c.args.formula.now.vars in over_front vars c.vars.result c.in_ok-one.one ([]) c.vars.ensures.value c.in_ok-one.ensures (over_none vars)
