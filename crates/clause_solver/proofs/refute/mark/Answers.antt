use Rattle.std.proofs.Common.{◌∙◌, ap}
use Rattle.std.proofs.lemmas.Bool.{or_left, or_right}
use Rattle.clause_core.specs.Literal.{flip, same}
use Rattle.clause_core.proofs.Tools.{same-at}
use Rattle.lrat_replay.specs.Marks.{known_of}
use Rattle.clause_solver.proofs.Marking.{marking-more}
use Rattle.clause_solver.proofs.refute.mark.Goals as goal

pub loop-lit-preserved : goal.loop-lit-preserved
loop-lit-preserved c = record {
  marking = marking-more (known_of c.args.seen.now) (known_of c.loop-lit.seen) (known_of c.add.new.self) c.args.clause.now c.loop-lit.lit-index c.lit-item.result c.loop-lit-test.true c.lit-item.is c.loop-lit.invariant.marking
      (λ x h. ap (λ k. k x) c.add.ensures.added ∙ or_right (same c.flip.result x) (known_of c.loop-lit.seen x) h)
      (ap (λ k. k (flip c.lit-item.result)) c.add.ensures.added ∙ or_left (same c.flip.result (flip c.lit-item.result)) (known_of c.loop-lit.seen (flip c.lit-item.result)) (same-at c.flip.result (flip c.lit-item.result) c.flip.ensures));
  room_is = c.add.ensures.room ∙ c.loop-lit.invariant.room_is;
}
