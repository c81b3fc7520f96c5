use Rattle.std.proofs.Common.{take, map}
use Rattle.journal_text.specs.Parts.{part_of}
use Rattle.audit_core.specs.Tested.{basis_in}
use Rattle.audit_core.proofs.SeenLaws.{part_bounds, refused_here}
use Rattle.audit_core.proofs.audit.test_parts.Goals as goal

pub take-requires-clause-bounds : goal.take-requires-clause-bounds
take-requires-clause-bounds c = part_bounds c.args.basis.now.version c.args.parts.now c.loop-part.part-index c.part-item.result c.loop-part-test.true c.part-item.is c.requires.bounds

pub returns-in-Err-clause-refused : goal.returns-in-Err-clause-refused
returns-in-Err-clause-refused c other =
    refused_here (basis_in c.args.basis.now) c.args.parts.now c.loop-part.part-index c.part-item.result c.in-Err.refusal c.loop-part-test.true c.part-item.is c.loop-part.invariant.right
    (c.in-Err.ensures.refused other (map part_of (take c.loop-part.part-index c.args.parts.now)) c.loop-part.invariant)
