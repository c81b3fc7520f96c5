use Rattle.std.proofs.Common.{◌↔◌, sym, subst}
use Rattle.std.specs.Prelude.{IsTrue}
use Rattle.journal_text.specs.declared.target.Close.TheVariants.{Refuted, Spent}
use Rattle.audit_core.specs.Audit.{HasSection}
use Rattle.audit_core.proofs.AskedLaws.{both, whole_asked, marked_asked}
use Rattle.audit_core.proofs.answer.has_section.Goals as goal

pub returns-in-Undecided : goal.returns-in-Undecided
returns-in-Undecided c before is =
    subst (λ a. IsTrue c.has_whole.result ↔ HasSection before c.args.output a) (sym c.in-Undecided.is)
    (both c.has_whole.ensures (whole_asked c.args.asked.now before is c.args.output (Spent c.in-Undecided.after) c.in-Undecided.at))

pub returns-in-NoneMapped : goal.returns-in-NoneMapped
returns-in-NoneMapped c before is =
    subst (λ a. IsTrue c.has_marked.result ↔ HasSection before c.args.output a) (sym c.in-NoneMapped.is)
    (both c.has_marked.ensures (marked_asked c.args.asked.now before is c.args.output Refuted c.in-NoneMapped.array))

pub returns-in-MapUndecided : goal.returns-in-MapUndecided
returns-in-MapUndecided c before is =
    subst (λ a. IsTrue c.has_marked-in-MapUndecided.result ↔ HasSection before c.args.output a) (sym c.in-MapUndecided.is)
    (both c.has_marked-in-MapUndecided.ensures (marked_asked c.args.asked.now before is c.args.output (Spent c.in-MapUndecided.after) c.in-MapUndecided.array))
