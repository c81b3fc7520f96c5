use Rattle.std.proofs.Common.{◌++◌, ◌∷◌, [], drop, map}
use Rattle.report_text.specs.Cells.{control_text}
use Rattle.report_text.specs.Report.{words_text}
use Rattle.report_text.proofs.PutLaws.{IsPut, led}
use Rattle.report_text.proofs.write.put_row.Given as goal

abbrev pub invariant-loop-cell : goal.invariant-loop-cell
invariant-loop-cell g l =
    IsPut (g.K.Sink.got l.initial.sink) (g.K.Sink.got l.sink) l.initial.buffer l.buffer (g.K.Sink.faults l.initial.sink) (g.K.Sink.faults l.sink) (led control_text (32 ∷ []) l.lead (drop l.cell-index l.cells) ++ 10 ∷ [])
    (words_text (map control_text l.cells))
