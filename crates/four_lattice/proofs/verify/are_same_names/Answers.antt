use Rattle.std.proofs.Common.{arith, ◌<◌, length, sym, ◌∙◌}
use Rattle.std.proofs.lemmas.Bool.{true≢false}
use Rattle.four_lattice.proofs.VerifiedLaws.{names_more, names_differ, same_bytes, other_bytes}
use Rattle.four_lattice.proofs.verify.are_same_names.Goals as goal

pub returns-then-ne : goal.returns-then-ne
returns-then-ne c =
    let there : c.loop-place.place < length c.args.others.now = let same = c.if-names-others.false in let within = c.loop-place-test.true in omega (arith, same, within) in (
      (λ wrong. absurd (true≢false (sym wrong))),
      (λ e. absurd (other_bytes c.bytes.result.now c.bytes-in-loop-place.result.now c.ne.result c.ne.ensures c.if-ne.true
          (c.bytes.ensures.same ∙ names_differ c.args.names.now c.args.others.now c.loop-place.place c.index-names-place.result c.index-others-place.result c.loop-place-test.true there c.index-names-place.is c.index-others-place.is e
          ∙ sym c.bytes-in-loop-place.ensures.same))),
    )

pub loop-place-preserved : goal.loop-place-preserved
loop-place-preserved c =
    let there : c.loop-place.place < length c.args.others.now = let same = c.if-names-others.false in let within = c.loop-place-test.true in omega (arith, same, within) in
    names_more c.args.names.now c.args.others.now c.loop-place.place c.index-names-place.result c.index-others-place.result c.loop-place-test.true there c.index-names-place.is c.index-others-place.is
    (sym c.bytes.ensures.same ∙ same_bytes c.bytes.result.now c.bytes-in-loop-place.result.now c.ne.result c.ne.ensures c.if-ne.false ∙ c.bytes-in-loop-place.ensures.same) c.loop-place.invariant
