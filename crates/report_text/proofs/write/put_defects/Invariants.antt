use Rattle.std.proofs.Common.{map, take, drop, ◌*◌}
use Rattle.report_text.specs.Cells.{defect_byte}
use Rattle.report_text.proofs.PutLaws.{IsPut}
use Rattle.report_text.proofs.write.put_defects.Given as goal

abbrev pub invariant-loop-col : goal.invariant-loop-col
invariant-loop-col g l =
    IsPut (g.K.Sink.got l.initial.sink) (g.K.Sink.got l.sink) l.initial.buffer l.buffer (g.K.Sink.faults l.initial.sink) (g.K.Sink.faults l.sink)
    (map defect_byte (drop l.col (take l.array.size.cols (drop (l.row * l.array.size.cols) l.array.cells)))) (map defect_byte (take l.array.size.cols (drop (l.row * l.array.size.cols) l.array.cells)))
