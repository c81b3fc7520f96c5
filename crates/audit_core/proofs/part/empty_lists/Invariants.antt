use Rattle.std.proofs.Common.{[]}
use Rattle.audit_core.specs.Sought.{AreKept}
use Rattle.audit_core.proofs.part.empty_lists.Given as goal

abbrev pub invariant-loop-output : goal.invariant-loop-output
invariant-loop-output l = AreKept [] l._output l.lists.items
