use Rattle.std.proofs.Common.{◌∷◌, decimal}
use Rattle.report_text.specs.Cells.{size_text}
use Rattle.report_text.proofs.PutLaws.{puts_then}
use Rattle.report_text.proofs.write.ProofSpelled.put.Goals as goal

pub returns : goal.returns
returns g c = puts_then _ _ _ _ _ _ _ _ _ tt c.put_number.result (size_text c.args.self.now.shape) (58 ∷ decimal c.args.self.now.steps) c.put_number.ensures c.in_ok-put_size.ensures
