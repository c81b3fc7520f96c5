use Rattle.report_text.specs.Pieces.{words, words_left}
use Rattle.report_text.proofs.CellsLaws.{HasCells}
use Rattle.report_text.proofs.line.add_row.Given as goal

abbrev pub invariant-loop-col : goal.invariant-loop-col
invariant-loop-col l = HasCells (words l.line) (words_left l.rest) l.initial.cells.items l.cells.items l._col
