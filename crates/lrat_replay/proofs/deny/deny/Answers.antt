use Rattle.std.proofs.Common.{◌≡◌, ◌∙◌, sym, ap, take, true, false}
use Rattle.clause_core.specs.Literal.{flip, has}
use Rattle.lrat_replay.specs.Status.{with_literal}
use Rattle.lrat_replay.specs.Book.{denied, some_flip}
use Rattle.lrat_replay.proofs.DenyLaws.{more, denied-more, no_flip-more, some_flip-true, has-take, has-at}
use Rattle.lrat_replay.proofs.deny.deny.Goals as goal

pub returns-then-has-clause-value : goal.returns-then-has-clause-value
returns-then-has-clause-value c =
    let seen : has (take c.loop-lit.lit-index c.args.clause.now) (flip c.lit-item.result) ≡ true =
    ap (λ k. k c.lit-item.result) (sym c.loop-lit.invariant.marked) ∙ sym c.has.ensures ∙ c.if-has.true in
    sym (some_flip-true c.args.clause.now c.args.clause.now c.lit-item.result (has-at c.args.clause.now c.loop-lit.lit-index c.lit-item.result c.loop-lit-test.true c.lit-item.is)
    (has-take c.args.clause.now c.loop-lit.lit-index (flip c.lit-item.result) seen))

pub loop-lit-preserved : goal.loop-lit-preserved
loop-lit-preserved c =
    let front = take c.loop-lit.lit-index c.args.clause.now in
    let one_more = more c.args.clause.now c.loop-lit.lit-index c.lit-item.result c.loop-lit-test.true c.lit-item.is in
    let new : has front (flip c.lit-item.result) ≡ false = ap (λ k. k c.lit-item.result) (sym c.loop-lit.invariant.marked) ∙ sym c.has.ensures ∙ c.if-has.false in
    record {
      marked = c.add.ensures.added ∙ (λ i. with_literal (c.loop-lit.invariant.marked i) (c.flip.ensures i)) ∙ (λ i. λ l. denied-more front c.lit-item.result l i) ∙ ap denied (sym one_more);
      none = ap (λ w. some_flip w w) one_more ∙ no_flip-more front c.lit-item.result c.loop-lit.invariant.none new;
      same_room = c.add.ensures.room ∙ c.loop-lit.invariant.same_room;
    }
