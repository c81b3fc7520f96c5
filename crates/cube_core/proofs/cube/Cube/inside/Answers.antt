use Rattle.std.proofs.Common.{subst, sym}
use Rattle.cube_core.specs.Members.{Assignments, IsWithin}
use Rattle.cube_core.proofs.LiteralLaws.{IsInside-IsWithin}
use Rattle.cube_core.proofs.cube.Cube.inside.Goals as goal

pub returns : goal.returns
returns c =
    let law = IsInside-IsWithin c.args.inputs c.args.self.now c.args.table.now in (
      λ t. law.0 (subst (λ (s : Assignments). IsWithin s c.args.table.now) c.of_cube.ensures (c.is_within.ensures.0 t)),
      λ all. c.is_within.ensures.1 (subst (λ (s : Assignments). IsWithin s c.args.table.now) (sym c.of_cube.ensures) (law.1 all)),
    )
