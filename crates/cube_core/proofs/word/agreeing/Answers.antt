use Rattle.std.proofs.Common.{ap, ◌∙◌, sym, Some}
use Rattle.cube_core.specs.Assignment.{bit}
use Rattle.cube_core.specs.Cube.{agrees}
use Rattle.cube_core.proofs.WordLaws.{bit-all_ones, bit-not}
use Rattle.cube_core.proofs.word.agreeing.Goals as goal

pub returns-in-Some-false : goal.returns-in-Some-false
returns-in-Some-false c = λ j within.
    bit-not c.args.ones j c.ranges.ones.fits within ∙ sym (ap (λ l. agrees l (bit c.args.ones j)) (c.in-Some-false.is ∙ ap Some c.in-Some-false.field-0-test))

pub returns-in-None : goal.returns-in-None
returns-in-None c = λ j within. bit-all_ones j within ∙ sym (ap (λ l. agrees l (bit c.args.ones j)) c.in-None.is)
