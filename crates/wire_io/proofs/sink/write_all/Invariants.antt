use Rattle.std.proofs.Common.{◌≡◌, length, ◌-◌, ◌≤◌, take}
use Rattle.wire_io.specs.Told.{Gains}
use Rattle.wire_io.proofs.sink.write_all.Given as goal

-- what the sink gained so far, that `given` is within the bytes, and that the count stands
abbrev pub invariant-loop-given : goal.invariant-loop-given
invariant-loop-given g l =
    Gains (g.K.Sink.got l.initial.sink) (g.K.Sink.got l.sink) (take l.given l.bytes)
    × (l.given ≤ length l.bytes)
    × (g.K.Sink.faults l.sink ≡ g.K.Sink.faults l.initial.sink)

abbrev pub decreases-loop-given : goal.decreases-loop-given
decreases-loop-given g l = length l.bytes - l.given
