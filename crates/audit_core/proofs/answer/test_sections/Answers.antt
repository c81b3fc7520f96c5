use Rattle.std.proofs.Common.{[], ◌∷◌, refl, sym, ◌∙◌}
use Rattle.std.proofs.lemmas.Bool.{false≢true}
use Rattle.audit_core.specs.Audit.Demand.{OfCover, OfSection, OfProofs}
use Rattle.audit_core.specs.Tested.{basis_in, claim_behind}
use Rattle.audit_core.specs.declared.refusal.AuditRefusal.TheVariants.{Uncovered, NoSection, Proofs}
use Rattle.audit_core.proofs.AnswerLaws.{told_here, told_later}
use Rattle.audit_core.proofs.RightLaws.{closed_listed_in}
use Rattle.audit_core.proofs.answer.test_sections.Goals as goal

pub returns-then-not-is_covered-clause-told : goal.returns-then-not-is_covered-clause-told
returns-then-not-is_covered-clause-told c before behind f of =
    let cover = c.is_covered.ensures before c.args.claim.now.block.now.output behind.kept in
    told_here (claim_behind c.args.basis.now c.args.claim.now before) f c.args.claim.now.line OfCover (OfSection ∷ OfProofs ∷ []) (Uncovered c.args.claim.now.line) (λ h. false≢true (sym c.if-not-is_covered.true ∙ cover.1 h)) refl

pub returns-then-not-has_section-clause-told : goal.returns-then-not-has_section-clause-told
returns-then-not-has_section-clause-told c before behind f of =
    let cover = c.is_covered.ensures before c.args.claim.now.block.now.output behind.kept in
    told_later (claim_behind c.args.basis.now c.args.claim.now before) f c.args.claim.now.line OfCover (OfSection ∷ OfProofs ∷ []) (NoSection c.args.claim.now.line) (cover.0 c.if-not-is_covered.false)
    (told_here (claim_behind c.args.basis.now c.args.claim.now before) f c.args.claim.now.line OfSection (OfProofs ∷ []) (NoSection c.args.claim.now.line) (λ h. false≢true (sym c.if-not-has_section.true ∙ (c.has_section.ensures before behind.sections).1 h)) refl)

pub returns-then-not-lists_proofs-clause-told : goal.returns-then-not-lists_proofs-clause-told
returns-then-not-lists_proofs-clause-told c before behind f of =
    let cover = c.is_covered.ensures before c.args.claim.now.block.now.output behind.kept in
    let listed = closed_listed_in (basis_in c.args.basis.now) before c.args.claim.now.block.now.output f behind.right of c.args.basis.now.version c.args.claim.now.block.now.answer c.args.claim.now.block.now.proofs.items in
    told_later (claim_behind c.args.basis.now c.args.claim.now before) f c.args.claim.now.line OfCover (OfSection ∷ OfProofs ∷ []) (Proofs c.args.claim.now.line) (cover.0 c.if-not-is_covered.false)
    (told_later (claim_behind c.args.basis.now c.args.claim.now before) f c.args.claim.now.line OfSection (OfProofs ∷ []) (Proofs c.args.claim.now.line) ((c.has_section.ensures before behind.sections).0 c.if-not-has_section.false)
    (told_here (claim_behind c.args.basis.now c.args.claim.now before) f c.args.claim.now.line OfProofs [] (Proofs c.args.claim.now.line) (λ h. false≢true (sym c.if-not-lists_proofs.true ∙ (c.lists_proofs.ensures before behind.sections).1 (listed.1 h))) refl))

pub returns-clause-met : goal.returns-clause-met
returns-clause-met c before behind f of =
    let cover = c.is_covered.ensures before c.args.claim.now.block.now.output behind.kept in
    let listed = closed_listed_in (basis_in c.args.basis.now) before c.args.claim.now.block.now.output f behind.right of c.args.basis.now.version c.args.claim.now.block.now.answer c.args.claim.now.block.now.proofs.items in
    (cover.0 c.if-not-is_covered.false, ((c.has_section.ensures before behind.sections).0 c.if-not-has_section.false, (listed.0 ((c.lists_proofs.ensures before behind.sections).0 c.if-not-lists_proofs.false), tt)))
