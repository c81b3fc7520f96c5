use Rattle.std.proofs.Common.{◌≡◌, take}
use Rattle.wire_io.specs.Told.{Gains}
use Rattle.wire_io.specs.Pieces.{joined}
use Rattle.wire_io.proofs.sink.write_pieces.Given as goal

abbrev pub invariant-loop-piece : goal.invariant-loop-piece
invariant-loop-piece g l =
    Gains (g.K.Sink.got l.initial.sink) (g.K.Sink.got l.sink) (joined (take l.piece-index l.pieces))
    × (g.K.Sink.faults l.sink ≡ g.K.Sink.faults l.initial.sink)
