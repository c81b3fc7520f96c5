use Rattle.std.proofs.Common.{◌↔◌, sym, subst, inl, inr}
use Rattle.std.specs.Prelude.{IsTrue}
use Rattle.audit_core.specs.Sought.{ListsClosed}
use Rattle.audit_core.proofs.AskedLaws.{both, lists_whole_asked, lists_marked_asked}
use Rattle.audit_core.proofs.answer.lists.Goals as goal

pub returns-in-Minimum : goal.returns-in-Minimum
returns-in-Minimum c before is =
    let so = both c.lists_whole.ensures (lists_whole_asked c.args.asked.now before is c.args.output c.args.proofs.now) in
    elim c.in-Minimum.is [
      | inl e ↦ subst (λ a. IsTrue c.lists_whole.result ↔ ListsClosed c.args.output before a c.args.proofs.now) (sym e.1) so
      | inr e ↦ subst (λ a. IsTrue c.lists_whole.result ↔ ListsClosed c.args.output before a c.args.proofs.now) (sym e.4) so
    ]

pub returns-in-NoneMapped : goal.returns-in-NoneMapped
returns-in-NoneMapped c before is =
    subst (λ a. IsTrue c.lists_marked.result ↔ ListsClosed c.args.output before a c.args.proofs.now) (sym c.in-NoneMapped.is)
    (both c.lists_marked.ensures (lists_marked_asked c.args.asked.now before is c.args.output c.args.proofs.now c.in-NoneMapped.array))
