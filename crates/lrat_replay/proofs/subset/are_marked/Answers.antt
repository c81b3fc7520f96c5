use Rattle.std.proofs.Common.{◌∙◌, sym}
use Rattle.std.proofs.lemmas.Bool.{both_ways}
use Rattle.lrat_replay.specs.Marks.{known_of}
use Rattle.lrat_replay.proofs.DenyLaws.{has-at}
use Rattle.lrat_replay.proofs.SubsetLaws.{known_more}
use Rattle.lrat_replay.proofs.subset.are_marked.Goals as goal

pub returns-then-not-has : goal.returns-then-not-has
returns-then-not-has c =
    let out = sym c.has.ensures ∙ c.if-not-has.true in (
      λ h. absurd (cc),
      λ all. absurd (both_ways (known_of c.args.marks.now c.lit-item.result) out
          (all c.lit-item.result (has-at c.args.clause.now c.loop-lit.lit-index c.lit-item.result c.loop-lit-test.true c.lit-item.is))),
    )

pub loop-lit-preserved : goal.loop-lit-preserved
loop-lit-preserved c = known_more (known_of c.args.marks.now) c.args.clause.now c.loop-lit.lit-index c.lit-item.result c.loop-lit-test.true c.lit-item.is (sym c.has.ensures ∙ c.if-not-has.false) c.loop-lit.invariant
