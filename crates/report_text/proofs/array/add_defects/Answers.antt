use Rattle.std.proofs.Common.{refl}
use Rattle.report_text.proofs.CellsLaws.{no_defects-byte}
use Rattle.report_text.proofs.array.add_defects.Goals as goal

pub returns-in_default : goal.returns-in_default
returns-in_default c = λ ds many e. no_defects-byte c.args.row.now c.loop-byte.byte-index _ c.loop-byte-test.true refl c.in_default.ensures ds e
