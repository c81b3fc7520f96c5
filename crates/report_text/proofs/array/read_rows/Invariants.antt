use Rattle.report_text.specs.Pieces.{pieces, pieces_left}
use Rattle.report_text.proofs.CellsLaws.{HasArrayRows}
use Rattle.report_text.proofs.array.read_rows.Given as goal

abbrev pub invariant-loop-row : goal.invariant-loop-row
invariant-loop-row l = HasArrayRows l.fn.shape.cols (pieces 47 l.word) (pieces_left 47 l.rest) l.cells.items l._row
