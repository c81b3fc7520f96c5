use Rattle.std.proofs.Common.{◌∙◌, sym}
use Rattle.cube_core.proofs.SetLaws.{IsWithin-minus}
use Rattle.cube_core.proofs.table.Table.is_within.Goals as goal

pub returns : goal.returns
returns c =
    let law = IsWithin-minus c.args.self.now c.args.other.now in
    (λ t. law.0 (sym c.minus.ensures ∙ c.is_empty.ensures.0 t), λ all. c.is_empty.ensures.1 (c.minus.ensures ∙ law.1 all))
