use Rattle.std.proofs.Common.{ap₂, ◌∙◌, sym, ◌&&◌}
use Rattle.cube_core.specs.Assignment.{bit}
use Rattle.cube_core.proofs.WordLaws.{bit-and}
use Rattle.cube_core.proofs.CubeLaws.{and_swap}
use Rattle.cube_core.proofs.word.of_cube.Goals as goal

pub returns-then-reaches : goal.returns-then-reaches
returns-then-reaches c = λ j within.
    bit-and c.args.low c.below.result j ∙ and_swap (bit c.args.low j) (bit c.below.result j)
    ∙ ap₂ (λ a b. a && b) (c.below.ensures j within) (c.requires.low j within ∙ sym (c.if-reaches.ensures j within))
