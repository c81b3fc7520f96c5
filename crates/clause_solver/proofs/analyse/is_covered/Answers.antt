use Rattle.std.proofs.Common.{sym, subst}
use Rattle.lrat_replay.proofs.Tools.{has-at}
use Rattle.clause_solver.specs.Trail.{IsVariableOf}
use Rattle.clause_solver.proofs.Placing.{flip_variable}
use Rattle.clause_solver.proofs.analyse.is_covered.Goals as goal

pub place-place-requires : goal.place-place-requires
place-place-requires c =
    subst (IsVariableOf c.args.trail.now.vars) (sym c.flip.ensures)
    (flip_variable c.args.trail.now.vars c.args.clause.now c.lit-item.result c.requires (has-at c.args.clause.now c.loop-lit.lit-index c.lit-item.result c.loop-lit-test.true c.lit-item.is))
