use Rattle.std.proofs.Common.{map, Some}
use Rattle.report_text.specs.Report.{text_of, lattice_lines}
use Rattle.report_text.proofs.MemberLaws.{row_line}
use Rattle.report_text.proofs.PutLaws.{IsPut, rows_after}
use Rattle.report_text.proofs.write.put_grid.Given as goal

abbrev pub invariant-loop-row : goal.invariant-loop-row
invariant-loop-row g l =
    IsPut (g.K.Sink.got l.initial.sink) (g.K.Sink.got l.sink) l.initial.buffer l.buffer (g.K.Sink.faults l.initial.sink) (g.K.Sink.faults l.sink)
    (text_of (map row_line (rows_after l.grid.size.cols l.grid.size.rows l.grid.cells l.row))) (text_of (lattice_lines (Some l.grid)))
