use Rattle.std.proofs.Common.{drop}
use Rattle.std.specs.List.{flat_map}
use Rattle.report_text.proofs.Tools.{IsPut}
use Rattle.journal_text.specs.Lines.{line_text}
use Rattle.journal_text.proofs.write.put_steps.Given as goal

abbrev pub invariant-loop-line : goal.invariant-loop-line
invariant-loop-line g l =
    IsPut (g.K.Sink.got l.initial.sink) (g.K.Sink.got l.sink) l.initial.buffer l.buffer (g.K.Sink.faults l.initial.sink) (g.K.Sink.faults l.sink) (flat_map line_text (drop l.line-index l.steps))
    (flat_map line_text l.steps)
