use Rattle.report_text.proofs.CellsLaws.{HasDefects}
use Rattle.report_text.proofs.array.add_defects.Given as goal

abbrev pub invariant-loop-byte : goal.invariant-loop-byte
invariant-loop-byte l = HasDefects l.row l.initial.cells.items l.cells.items l.byte-index
