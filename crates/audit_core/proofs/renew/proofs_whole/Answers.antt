use Rattle.journal_text.specs.declared.target.Close.TheVariants.{Refuted}
use Rattle.audit_core.specs.Listing.{HasFewSteps}
use Rattle.audit_core.specs.Sought.{IsWholeOf}
use Rattle.audit_core.proofs.RenewLaws.{gathers_more, gathers_all, part_has}
use Rattle.audit_core.proofs.renew.proofs_whole.Goals as goal

pub add_proof-requires : goal.add_proof-requires
add_proof-requires c = part_has HasFewSteps c.args.parts.now c.loop-part.part-index c.part-item.result c.loop-part-test.true c.part-item.is c.requires

pub loop-part-preserved : goal.loop-part-preserved
loop-part-preserved c =
    gathers_more (IsWholeOf c.args.output Refuted) c.args.parts.now c.loop-part.part-index c.part-item.result c.loop-part.proofs.items c.add_proof.new.proofs.items c.loop-part-test.true c.part-item.is c.loop-part.invariant c.in_ok-add_proof.ensures

pub returns : goal.returns
returns c = gathers_all (IsWholeOf c.args.output Refuted) c.args.parts.now c.loop-part.part-index c.loop-part.proofs.items c.loop-part-test.false c.loop-part.invariant
