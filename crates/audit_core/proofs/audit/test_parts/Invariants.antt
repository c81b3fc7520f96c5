use Rattle.std.proofs.Common.{map, take}
use Rattle.journal_text.specs.Parts.{part_of}
use Rattle.audit_core.specs.Seen.{IsSeen}
use Rattle.audit_core.specs.Tested.{basis_in}
use Rattle.audit_core.proofs.audit.test_parts.Given as goal

abbrev pub invariant-loop-part : goal.invariant-loop-part
invariant-loop-part l = IsSeen (basis_in l.basis) (map part_of (take l.part-index l.parts)) l.seen
