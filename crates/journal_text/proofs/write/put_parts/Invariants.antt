use Rattle.std.proofs.Common.{drop}
use Rattle.std.specs.List.{flat_map}
use Rattle.report_text.proofs.Tools.{IsPut}
use Rattle.journal_text.specs.Parts.{part_of}
use Rattle.journal_text.specs.Text.{part_text}
use Rattle.journal_text.proofs.write.put_parts.Given as goal

abbrev pub invariant-loop-part : goal.invariant-loop-part
invariant-loop-part g l =
    IsPut (g.K.Sink.got l.initial.sink) (g.K.Sink.got l.sink) l.initial.buffer l.buffer (g.K.Sink.faults l.initial.sink) (g.K.Sink.faults l.sink) (flat_map (λ p. part_text l.version (part_of p)) (drop l.part-index l.parts))
    (flat_map (λ p. part_text l.version (part_of p)) l.parts)
