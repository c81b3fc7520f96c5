use Rattle.std.proofs.Common.{◌≡◌, take}
use Rattle.wire_io.specs.Passing.{Passes}
use Rattle.wire_io.specs.Pieces.{joined}
use Rattle.wire_io.proofs.buffer.Buffer.put_all.Given as goal

abbrev pub invariant-loop-piece : goal.invariant-loop-piece
invariant-loop-piece g l = record {
  passed : Passes (g.K.Sink.got l.initial.sink) (g.K.Sink.got l.sink) l.initial.self l.self (joined (take l.piece-index l.pieces));
  still : g.K.Sink.faults l.sink ≡ g.K.Sink.faults l.initial.sink;
}
