use Rattle.std.proofs.Common.{◌+◌, length, not}
use Rattle.std.specs.List.{count_by}
use Rattle.reach_encoding.specs.ModelOf.{IsFlood}
use Rattle.reach_encoding.proofs.flood.spread.Given as goal

abbrev pub invariant-loop-p : goal.invariant-loop-p
invariant-loop-p l = IsFlood l.shape l.free l.fn.side l.marks.items l.waiting.items

abbrev pub decreases-loop-p : goal.decreases-loop-p
decreases-loop-p l = count_by not l.marks.items + length l.waiting.items
