use Rattle.std.proofs.Common.{◌≡◌, drop}
use Rattle.wire_io.proofs.Tools.{IsPassed}
use Rattle.clause_core.specs.Cnf.{literals_text}
use Rattle.clause_core.proofs.write.put_literals.Given as goal

abbrev pub invariant-loop-lit : goal.invariant-loop-lit
invariant-loop-lit g l =
    IsPassed (g.K.Sink.got l.initial.sink) (g.K.Sink.got l.sink) l.initial.buffer l.buffer (literals_text (drop l.lit-index l.clause)) (literals_text l.clause)
    × (g.K.Sink.faults l.sink ≡ g.K.Sink.faults l.initial.sink)
