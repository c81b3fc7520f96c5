use Rattle.std.proofs.Common.{◌≡◌, drop}
use Rattle.wire_io.proofs.Tools.{IsPassed}
use Rattle.lrat_replay.specs.LratText.{hints_text}
use Rattle.lrat_replay.proofs.write.put_hints.Given as goal

abbrev pub invariant-loop-hint : goal.invariant-loop-hint
invariant-loop-hint g l =
    IsPassed (g.K.Sink.got l.initial.sink) (g.K.Sink.got l.sink) l.initial.buffer l.buffer (hints_text (drop l.hint-index l.hints)) (hints_text l.hints)
    × (g.K.Sink.faults l.sink ≡ g.K.Sink.faults l.initial.sink)
