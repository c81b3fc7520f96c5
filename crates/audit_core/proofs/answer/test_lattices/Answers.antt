use Rattle.std.proofs.Common.{[], ◌∷◌, refl, sym, ◌∙◌}
use Rattle.std.proofs.lemmas.Bool.{false≢true}
use Rattle.audit_core.specs.Audit.Demand.{OfPair, OfLiterals, OfValues, OfArea}
use Rattle.audit_core.specs.Tested.{claim_in}
use Rattle.audit_core.specs.declared.refusal.AuditRefusal.TheVariants.{NoRails, Large}
use Rattle.audit_core.proofs.AnswerLaws.{told_here, told_later, told_front}
use Rattle.audit_core.proofs.answer.test_lattices.Goals as goal

pub returns-then-not-branch-clause-told : goal.returns-then-not-branch-clause-told
returns-then-not-branch-clause-told c _ =
    told_here (claim_in c.args.basis.now c.args.claim.now) c.args.spec.now c.args.claim.now.line OfPair (OfLiterals ∷ OfValues ∷ OfArea ∷ []) (NoRails c.args.claim.now.line) (λ h. false≢true (sym c.if-not-branch.true ∙ c.in_ok-has_pair.ensures.1 h)) refl

pub returns-in-Err-clause-told : goal.returns-in-Err-clause-told
returns-in-Err-clause-told c other =
    told_later (claim_in c.args.basis.now c.args.claim.now) c.args.spec.now c.args.claim.now.line OfPair (OfLiterals ∷ OfValues ∷ OfArea ∷ []) c.in-Err.refusal (c.in_ok-has_pair.ensures.0 c.if-not-branch.false)
    (told_front (claim_in c.args.basis.now c.args.claim.now) c.args.spec.now c.args.claim.now.line (OfLiterals ∷ OfValues ∷ []) (OfArea ∷ []) c.in-Err.refusal (c.in-Err.ensures.told other))

pub returns-then-not-branch-2-clause-told : goal.returns-then-not-branch-2-clause-told
returns-then-not-branch-2-clause-told c _ =
    told_later (claim_in c.args.basis.now c.args.claim.now) c.args.spec.now c.args.claim.now.line OfPair (OfLiterals ∷ OfValues ∷ OfArea ∷ []) (Large c.args.claim.now.line) (c.in_ok-has_pair.ensures.0 c.if-not-branch.false)
    (told_later (claim_in c.args.basis.now c.args.claim.now) c.args.spec.now c.args.claim.now.line OfLiterals (OfValues ∷ OfArea ∷ []) (Large c.args.claim.now.line) c.in_default.ensures.met.0
    (told_later (claim_in c.args.basis.now c.args.claim.now) c.args.spec.now c.args.claim.now.line OfValues (OfArea ∷ []) (Large c.args.claim.now.line) c.in_default.ensures.met.1.0
    (told_here (claim_in c.args.basis.now c.args.claim.now) c.args.spec.now c.args.claim.now.line OfArea [] (Large c.args.claim.now.line) (λ h. false≢true (sym c.if-not-branch-2.true ∙ c.in_ok-is_small.ensures.1 h)) refl)))
