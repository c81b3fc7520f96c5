use Rattle.report_text.proofs.BlockLaws.{RowsRead}
use Rattle.report_text.proofs.block.rows_at.Given as goal

abbrev pub invariant-loop-row : goal.invariant-loop-row
invariant-loop-row l = RowsRead l.fn.shape l.bytes l.cells.items l.rest l.row
