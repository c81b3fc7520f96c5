use Rattle.std.proofs.Common.{◌≡◌, ap, ◌∙◌, arith}
use Rattle.cube_core.specs.Assignment.{bit}
use Rattle.cube_core.specs.Cube.{agrees, each_below, literal_of}
use Rattle.cube_core.proofs.WordLaws.{bit-all_ones}
use Rattle.cube_core.proofs.CubeLaws.{places-more}
use Rattle.cube_core.proofs.word.low_places.Goals as goal

pub loop-input-init : goal.loop-input-init
loop-input-init c = bit-all_ones

pub loop-input-preserved : goal.loop-input-preserved
loop-input-preserved c = λ j within.
    places-more c.args.cube.now c.loop-input.input c.loop-input.places c.agreeing-places.result c.literal.result j c.loop-input-test.true within
    c.literal.ensures (c.loop-input.invariant j within) (c.agreeing-places.ensures j within)

pub returns : goal.returns
returns c = λ j within.
    let all : c.loop-input.input ≡ 6 = omega arith in
    c.loop-input.invariant j within ∙ ap (each_below (λ i. agrees (literal_of c.args.cube.now i) (bit j i))) all
