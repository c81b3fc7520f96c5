use Rattle.std.proofs.Common.{ap, ◌∙◌}
use Rattle.std.specs.FinSet as sets
use Rattle.cube_core.proofs.SetLaws.{minus-complement_of}
use Rattle.cube_core.proofs.table.Table.complement.Goals as goal

pub returns : goal.returns
returns c = c.minus.ensures ∙ ap (λ s. sets.difference s c.args.self.now) c.full.ensures ∙ minus-complement_of c.args.inputs c.args.self.now
