use Rattle.std.proofs.Common.{ap, ◌∙◌, nat_eq, bit_and}
use Rattle.cube_core.specs.Cube.{Product, in_cube}
use Rattle.cube_core.proofs.CubeLaws.{mask-in_cube}
use Rattle.cube_core.proofs.cube.Cube.has.Goals as goal

pub returns : goal.returns
returns c =
    let cube : Product = record { care = c.self.inside.care; value = c.self.inside.value } in
    ap (λ x. nat_eq (bit_and x c.self.inside.care) c.self.inside.value) c.number.ensures.same
    ∙ mask-in_cube cube c.self.invariant c.args.x ∙ ap (λ p. in_cube p c.args.x) c.self.view_is
