use Rattle.std.proofs.Common.{sym, ◌∙◌, subst}
use Rattle.std.proofs.lemmas.Bool.{false≢true}
use Rattle.path_meaning.specs.Failing.{IsLeastFailureIn}
use Rattle.audit_core.specs.Tested.{claim_in}
use Rattle.audit_core.proofs.AnswerLaws.{literal, wrong_values}
use Rattle.audit_core.proofs.answer.test_lattice.Goals as goal

pub returns-then-not-allowed-clause-told : goal.returns-then-not-allowed-clause-told
returns-then-not-allowed-clause-told c _ =
    literal (claim_in c.args.basis.now c.args.claim.now) c.args.spec.now c.in-Some.grid.now (sym c.in-Some.ensures) c.args.claim.now.line (λ over. false≢true (sym c.if-not-allowed.true ∙ c.allowed.ensures.1 over))

pub returns-clause-told : goal.returns-clause-told
returns-clause-told c _ =
    wrong_values (claim_in c.args.basis.now c.args.claim.now) c.args.spec.now c.in-Some.grid.now (sym c.in-Some.ensures) c.args.claim.now.line c.in-Err.assign (c.allowed.ensures.0 c.if-not-allowed.false)
    (subst (λ a. IsLeastFailureIn c.in-Some.grid.now a c.args.spec.now c.in-Err.assign) c.array_of.ensures c.in-Err.ensures.least)
