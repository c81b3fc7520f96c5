use Rattle.std.proofs.Common.{◌≡◌, true, ◌∙◌, sym, subst, arith}
use Rattle.lrat_replay.proofs.Tools.{has-at}
use Rattle.clause_solver.specs.Trail.{known_by, IsVariableOf}
use Rattle.clause_solver.specs.Met.{seen_of}
use Rattle.clause_solver.proofs.Marking.{marking-more}
use Rattle.clause_solver.proofs.Placing.{flip_variable}
use Rattle.clause_solver.proofs.analyse.mark.Goals as goal

pub meet-requires-clause-known : goal.meet-requires-clause-known
meet-requires-clause-known c =
    subst (λ x. known_by c.args.trail.now.values x ≡ true) (sym c.flip.ensures) (c.requires.is_false c.lit-item.result (has-at c.args.clause.now c.loop-lit.lit-index c.lit-item.result c.loop-lit-test.true c.lit-item.is))

pub meet-requires-clause-variable : goal.meet-requires-clause-variable
meet-requires-clause-variable c =
    subst (IsVariableOf c.args.trail.now.vars) (sym c.flip.ensures)
    (flip_variable c.args.trail.now.vars c.args.clause.now c.lit-item.result c.requires.over (has-at c.args.clause.now c.loop-lit.lit-index c.lit-item.result c.loop-lit-test.true c.lit-item.is))

pub meet-requires-clause-room : goal.meet-requires-clause-room
meet-requires-clause-room c = omega (arith, c.requires.room, c.loop-lit.invariant.room_is)

pub loop-lit-preserved : goal.loop-lit-preserved
loop-lit-preserved c = record {
  marking = marking-more (seen_of c.args.met.now c.args.trail.now.values) (seen_of c.loop-lit.met c.args.trail.now.values) (seen_of c.meet.new.met c.args.trail.now.values) c.args.clause.now c.loop-lit.lit-index c.lit-item.result c.loop-lit-test.true c.lit-item.is c.loop-lit.invariant.marking
      c.meet.ensures.kept (subst (λ x. seen_of c.meet.new.met c.args.trail.now.values x ≡ true) c.flip.ensures c.meet.ensures.marked);
  room_is = c.meet.ensures.room ∙ c.loop-lit.invariant.room_is;
}
