use Rattle.std.proofs.Common.{◌≡◌, ◌-◌, ◌≤◌, vec_len}
use Rattle.wire_io.specs.Told.{Loses}
use Rattle.wire_io.proofs.source.read_all.Given as goal

-- the bytes so far are those that the source lost, at most as many as the limit, and the count stands
abbrev pub invariant-loop-count : goal.invariant-loop-count
invariant-loop-count g l = record {
  lost : Loses (g.S.Source.left l.initial.source) (g.S.Source.left l.source) l.bytes.items;
  few : vec_len l.bytes ≤ l.limit;
  still : g.S.Source.faults l.source ≡ g.S.Source.faults l.initial.source;
}

abbrev pub decreases-loop-count : goal.decreases-loop-count
decreases-loop-count g l = l.limit - vec_len l.bytes
