use Rattle.std.proofs.Common.{length}
use Rattle.audit_core.specs.Tested.{basis_in}
use Rattle.audit_core.proofs.TextLaws.{IsAuditing}
use Rattle.audit_core.proofs.text.audit_text.Given as goal

abbrev pub invariant-loop-ahead : goal.invariant-loop-ahead
invariant-loop-ahead l = IsAuditing (basis_in l.basis) l.text l.reader l.seen

abbrev pub decreases-loop-ahead : goal.decreases-loop-ahead
decreases-loop-ahead l = length l.reader.rest.now
