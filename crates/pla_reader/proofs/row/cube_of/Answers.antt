use Rattle.std.proofs.Common.{◌≡◌, length, arith, subst, get_or}
use Rattle.cube_core.specs.Cube.{HasLiterals}
use Rattle.pla_reader.specs.Meaning.{literal_of}
use Rattle.pla_reader.proofs.SetsLaws.{in_cube-allows}
use Rattle.pla_reader.proofs.row.cube_of.Goals as goal

pub returns : goal.returns
returns c =
    let end : c.loop-input.input ≡ length c.args.digits.now = omega arith in
    in_cube-allows c.args.digits.now c.loop-input.cube c.requires (subst (λ n. HasLiterals (λ i. literal_of (get_or c.args.digits.now i 0)) n c.loop-input.cube) end c.loop-input.invariant)
