use Rattle.std.proofs.Common.{inl, inr, arith}
use Rattle.report_text.proofs.PartLaws.{proof_parts, no_proof-whole, no_proof-steps, proof_small, proof_made}
use Rattle.report_text.proofs.line.proof_of.Goals as goal
use Rattle.report_text.proofs.line.proof_of.Goals.{else-steps-ge1-via-then-steps-ge1+else-steps-le-MOST_STEPS, else-steps-ge1-via-else-steps-ge1}

pub returns-in_err-size : goal.returns-in_err-size
returns-in_err-size c = rw c.from_residual.ensures (no_proof-whole _ c.in_err-size.ensures)

pub returns-in_err-shape : goal.returns-in_err-shape
returns-in_err-shape c = rw c.from_residual-in_err-shape.ensures (λ p is e. c.in_err-shape.ensures p.shape is.size (proof_parts _ _ _ c.in_ok-size.ensures p is e).0)

pub returns-in_err-steps : goal.returns-in_err-steps
returns-in_err-steps c = rw c.from_residual-in_err-steps.ensures (λ p is e. c.in_err-steps.ensures p.steps (proof_small p is) (proof_parts _ _ _ c.in_ok-size.ensures p is e).1)

pub returns-else-steps-ge1 : goal.returns-else-steps-ge1
returns-else-steps-ge1 c =
    no_proof-steps _ _ _ c.in_ok-steps.steps c.in_ok-size.ensures (omega arith) c.in_ok-steps.ensures
    (elim c.else-steps-ge1.branch [ else-steps-ge1-via-then-steps-ge1+else-steps-le-MOST_STEPS w ↦ inr (omega arith) | else-steps-ge1-via-else-steps-ge1 w ↦ inl (omega arith) ])
