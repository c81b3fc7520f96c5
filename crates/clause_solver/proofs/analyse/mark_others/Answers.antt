use Rattle.std.proofs.Common.{◌∙◌, arith}
use Rattle.lrat_replay.proofs.Tools.{has-at}
use Rattle.clause_solver.specs.Met.{seen_of}
use Rattle.clause_solver.proofs.Marking.{others-more, others-none}
use Rattle.clause_solver.proofs.Propagation.{over_has}
use Rattle.clause_solver.proofs.analyse.mark_others.Goals as goal

pub meet_other-requires-clause-known : goal.meet_other-requires-clause-known
meet_other-requires-clause-known c = c.requires.others c.lit-item.result (has-at c.args.clause.now c.loop-lit.lit-index c.lit-item.result c.loop-lit-test.true c.lit-item.is)

pub meet_other-requires-clause-variable : goal.meet_other-requires-clause-variable
meet_other-requires-clause-variable c = over_has c.args.trail.now.vars c.args.clause.now c.lit-item.result c.requires.over (has-at c.args.clause.now c.loop-lit.lit-index c.lit-item.result c.loop-lit-test.true c.lit-item.is)

pub meet_other-requires-clause-room : goal.meet_other-requires-clause-room
meet_other-requires-clause-room c = omega (arith, c.requires.room, c.loop-lit.invariant.room_is)

pub loop-lit-preserved : goal.loop-lit-preserved
loop-lit-preserved c = record {
  marking = others-more (seen_of c.args.met.now c.args.trail.now.values) (seen_of c.loop-lit.met c.args.trail.now.values) (seen_of c.meet_other.new.met c.args.trail.now.values) c.args.one c.args.clause.now c.loop-lit.lit-index c.lit-item.result c.loop-lit-test.true c.lit-item.is c.loop-lit.invariant.marking
      c.meet_other.ensures.kept c.meet_other.ensures.marked;
  room_is = c.meet_other.ensures.room ∙ c.loop-lit.invariant.room_is;
}
