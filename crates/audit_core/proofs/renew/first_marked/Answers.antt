use Rattle.std.proofs.Common.{subst, arith}
use Rattle.std.proofs.lemmas.List.{length-map}
use Rattle.journal_text.specs.Parts.{Question, part_of, section_of}
use Rattle.journal_text.specs.declared.journal.StepLine.{StepLine}
use Rattle.journal_text.specs.declared.target.Close.TheVariants.{Refuted}
use Rattle.audit_core.specs.Listing.{HasFewSteps}
use Rattle.audit_core.specs.Sought.{IsSection, IsMarkedOf}
use Rattle.audit_core.proofs.ListLaws.{no_marked, none_more, none_all}
use Rattle.audit_core.proofs.RenewLaws.{firsts_more, firsts_here, part_has}
use Rattle.audit_core.proofs.renew.first_marked.Goals as goal

pub loop-part-preserved : goal.loop-part-preserved
loop-part-preserved c = (
  firsts_more c.args.output c.args.array.now c.args.parts.now c.loop-part.part-index c.part-item.result c.loop-part-test.true c.part-item.is c.loop-part.invariant.0 c.in-None.ensures,
  none_more (λ p. IsSection (IsMarkedOf c.args.output c.args.array.now Refuted) (part_of p)) c.args.parts.now c.loop-part.part-index c.part-item.result c.loop-part-test.true c.part-item.is c.loop-part.invariant.1 c.in-None.ensures,
)

pub returns-in-Some : goal.returns-in-Some
returns-in-Some c =
    let few : HasFewSteps (part_of c.part-item.result) = part_has HasFewSteps c.args.parts.now c.loop-part.part-index c.part-item.result c.loop-part-test.true c.part-item.is c.requires in (
      (let many = length-map c.in-Some.section.now.steps.items (λ (l : StepLine). l.step) in let same : HasFewSteps (Question (section_of c.in-Some.section.now)) = subst HasFewSteps c.in-Some.ensures.0 few in omega (arith, many, same)),
      firsts_here c.args.output c.args.array.now c.args.parts.now c.loop-part.part-index c.part-item.result (section_of c.in-Some.section.now) c.loop-part-test.true c.part-item.is c.loop-part.invariant.0 c.in-Some.ensures.0 c.in-Some.ensures.1,
    )

pub returns : goal.returns
returns c =
    no_marked c.args.parts.now c.args.output c.args.array.now Refuted
    (none_all (λ p. IsSection (IsMarkedOf c.args.output c.args.array.now Refuted) (part_of p)) c.args.parts.now c.loop-part.part-index c.loop-part-test.false c.loop-part.invariant.1)
