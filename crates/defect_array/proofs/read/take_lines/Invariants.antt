use Rattle.std.proofs.Common.{length}
use Rattle.report_text.specs.Pieces.{pieces_left}
use Rattle.defect_array.proofs.TakeLaws.{Reached}
use Rattle.defect_array.proofs.read.take_lines.Given as goal

abbrev pub invariant-loop-rest : goal.invariant-loop-rest
invariant-loop-rest l = Reached l.text (pieces_left 10 l.rest) l.number l.rows.width l.rows.many l.rows.cells.items

abbrev pub decreases-loop-rest : goal.decreases-loop-rest
decreases-loop-rest l = length (pieces_left 10 l.rest)
