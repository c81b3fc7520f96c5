use Rattle.std.proofs.Common.{◌∙◌, sym}
use Rattle.cube_core.proofs.SetLaws.{AreDisjoint-and}
use Rattle.cube_core.proofs.table.Table.is_apart_from.Goals as goal

pub returns : goal.returns
returns c =
    let law = AreDisjoint-and c.args.self.now c.args.other.now in
    (λ t. law.0 (sym c.and.ensures ∙ c.is_empty.ensures.0 t), λ apart. c.is_empty.ensures.1 (c.and.ensures ∙ law.1 apart))
