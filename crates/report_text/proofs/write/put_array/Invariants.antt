use Rattle.std.proofs.Common.{map, ◌∷◌, []}
use Rattle.report_text.specs.Cells.{defect_byte, array_text}
use Rattle.report_text.proofs.PutLaws.{IsPut, led, rows_after}
use Rattle.report_text.proofs.write.put_array.Given as goal

abbrev pub invariant-loop-row : goal.invariant-loop-row
invariant-loop-row g l =
    IsPut (g.K.Sink.got l.initial.sink) (g.K.Sink.got l.sink) l.initial.buffer l.buffer (g.K.Sink.faults l.initial.sink) (g.K.Sink.faults l.sink)
    (led (map defect_byte) (47 ∷ []) l.lead (rows_after l.array.size.cols l.array.size.rows l.array.cells l.row)) (array_text l.array)
