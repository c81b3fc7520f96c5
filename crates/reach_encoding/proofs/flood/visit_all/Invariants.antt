use Rattle.std.proofs.Common.{take}
use Rattle.reach_encoding.specs.ModelOf.{Spreads}
use Rattle.reach_encoding.proofs.flood.visit_all.Given as goal

abbrev pub invariant-loop-p : goal.invariant-loop-p
invariant-loop-p l = Spreads l.shape l.free (take l.p-index l.places) l.initial.marks.items l.initial.waiting.items l.marks.items l.waiting.items
