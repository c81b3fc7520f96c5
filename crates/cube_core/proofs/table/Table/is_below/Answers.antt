use Rattle.std.proofs.Common.{subst, sym}
use Rattle.cube_core.specs.Members.{IsWithin}
use Rattle.cube_core.proofs.SetLaws.{AllBelow-IsWithin}
use Rattle.cube_core.proofs.table.Table.is_below.Goals as goal

pub returns : goal.returns
returns c =
    let law = AllBelow-IsWithin c.args.inputs c.args.self.now in (
      λ t. law.0 (subst (IsWithin c.args.self.now) c.full.ensures (c.is_within.ensures.0 t)),
      λ all. c.is_within.ensures.1 (subst (IsWithin c.args.self.now) (sym c.full.ensures) (law.1 all)),
    )
