use Rattle.std.proofs.Common.{◌∙◌, sym, ap, take}
use Rattle.clause_core.specs.Literal.{has}
use Rattle.lrat_replay.specs.Status.{with_literal}
use Rattle.lrat_replay.proofs.DenyLaws.{more}
use Rattle.lrat_replay.proofs.SubsetLaws.{marked-more}
use Rattle.lrat_replay.proofs.subset.mark_all.Goals as goal

pub loop-lit-preserved : goal.loop-lit-preserved
loop-lit-preserved c = record {
  marked = c.add.ensures.added ∙ ap (λ k. with_literal k c.lit-item.result) c.loop-lit.invariant.marked
      ∙ (λ i. λ l. marked-more (take c.loop-lit.lit-index c.args.clause.now) c.lit-item.result l i)
      ∙ ap has (sym (more c.args.clause.now c.loop-lit.lit-index c.lit-item.result c.loop-lit-test.true c.lit-item.is));
  same_room = c.add.ensures.room ∙ c.loop-lit.invariant.same_room;
}
