use Rattle.std.proofs.Common.{[], ◌∷◌}
use Rattle.clause_solver.proofs.Propagation.{over_none, over_front}
use Rattle.clause_solver.proofs.tests.add_end.Goals as goal

pub push-requires-clause-over : goal.push-requires-clause-over
push-requires-clause-over c = let vars = c.args.formula.now.vars in over_front vars c.vars.result c.in_ok-one.one (c.in_ok-two.two ∷ c.in_ok-three.three ∷ []) c.vars.ensures.value c.in_ok-one.ensures (over_front vars c.vars-2.result c.in_ok-two.two (c.in_ok-three.three ∷ []) c.vars-2.ensures.value c.in_ok-two.ensures (over_front vars c.vars-3.result c.in_ok-three.three ([]) c.vars-3.ensures.value c.in_ok-three.ensures (over_none vars)))
