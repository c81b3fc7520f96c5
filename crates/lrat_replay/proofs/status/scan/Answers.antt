use Rattle.std.proofs.Common.{◌≡◌, ◌∙◌, sym, ap, false}
use Rattle.lrat_replay.specs.Marks.{known_of}
use Rattle.lrat_replay.proofs.StatusSteps.{status-satisfied, status-end, none-more, status-same, status-met}
use Rattle.lrat_replay.proofs.status.scan.Goals as goal
use Rattle.lrat_replay.proofs.status.scan.Goals.{then-not-has, else-not-has}

pub returns-then-has : goal.returns-then-has
returns-then-has c = status-satisfied (known_of c.args.marks.now) c.args.clause.now c.loop-lit.lit-index c.lit-item.result c.loop-lit-test.true c.lit-item.is (sym c.has.ensures ∙ c.if-has.true)

pub loop-lit-preserved : goal.loop-lit-preserved
loop-lit-preserved c =
    let known = known_of c.args.marks.now in
    let unknown : known c.lit-item.result ≡ false = sym c.has.ensures ∙ c.if-has.false in
    record {
      none = none-more known c.args.clause.now c.loop-lit.lit-index c.lit-item.result c.loop-lit-test.true c.lit-item.is c.loop-lit.invariant.none unknown;
      so_far = elim c.if-not-has.branch [
        | then-not-has w ↦ w.status-is ∙ w.with_unassigned-status.ensures
            ∙ status-met known c.args.clause.now c.loop-lit.lit-index c.lit-item.result c.loop-lit-test.true c.lit-item.is c.loop-lit.status c.loop-lit.invariant.so_far unknown
            (ap known (sym c.flip.ensures) ∙ sym c.has-in-loop-lit.ensures ∙ w.if-not-has.true)
        | else-not-has w ↦ w.status-is
            ∙ status-same known c.args.clause.now c.loop-lit.lit-index c.lit-item.result c.loop-lit-test.true c.lit-item.is c.loop-lit.status c.loop-lit.invariant.so_far
            (ap known (sym c.flip.ensures) ∙ sym c.has-in-loop-lit.ensures ∙ w.if-not-has.false)
      ];
    }

pub returns : goal.returns
returns c = status-end (known_of c.args.marks.now) c.args.clause.now c.loop-lit.lit-index c.loop-lit.status c.loop-lit-test.false c.loop-lit.invariant.none c.loop-lit.invariant.so_far
