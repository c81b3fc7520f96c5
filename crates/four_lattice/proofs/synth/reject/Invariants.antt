use Rattle.std.proofs.Common.{◌≡◌, ◌++◌, map}
use Rattle.four_lattice.specs.Rejected.{rejected_for}
use Rattle.four_lattice.proofs.synth.reject.Given as goal

abbrev pub invariant-loop-entry : goal.invariant-loop-entry
invariant-loop-entry l = l.rejected.items ++ map (rejected_for l.output) l.entry-iterator.rest.items ≡ l.initial.rejected.items ++ map (rejected_for l.output) l.fn.dropped.items
