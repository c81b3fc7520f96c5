use Rattle.std.proofs.Common.{arith, subst}
use Rattle.audit_core.specs.Streamed.{IsTextConfirmed, IsTextRefused}
use Rattle.pla_reader.specs.Parts.{parts_of}
use Rattle.four_lattice.proofs.SideAuditLaws.{text_confirmed, text_stops}
use Rattle.four_lattice.proofs.audit.confirm_side.Goals as goal

pub returns-in-Ok-audit_text-clause-confirmed : goal.returns-in-Ok-audit_text-clause-confirmed
returns-in-Ok-audit_text-clause-confirmed g c =
    text_confirmed (parts_of c.args.text.now) _ _ c.in-Ok.bytes.items c.in-Ok-audit_text.confirmed.items c.len.result (let len = c.len.ensures in let ok = c.in-Ok-audit_text.confirmed.ok.0 in omega (arith, len, ok)) c.in-Ok.ensures.all c.in-Ok.ensures.spent c.in-Ok.ensures.few
    (subst (λ b. IsTextConfirmed (parts_of c.args.text.now) b c.in-Ok-audit_text.confirmed.items) c.deref.ensures.value c.in-Ok-audit_text.ensures.confirmed)

pub returns-clause-ends : goal.returns-clause-ends
returns-clause-ends g c =
    text_stops (parts_of c.args.text.now) _ c.in-Ok.bytes.items c.in-Err-audit_text.refusal c.ending_of_text.result c.ending_of_text.ensures c.in-Ok.ensures.all c.in-Ok.ensures.spent c.in-Ok.ensures.few
    (subst (λ b. IsTextRefused (parts_of c.args.text.now) b c.in-Err-audit_text.refusal) c.deref.ensures.value c.in-Err-audit_text.ensures.refused)
