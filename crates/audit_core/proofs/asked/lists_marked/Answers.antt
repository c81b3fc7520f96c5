use Rattle.journal_text.specs.declared.target.Close.TheVariants.{Refuted}
use Rattle.std.proofs.Common.{sym, ◌∙◌}
use Rattle.std.proofs.lemmas.Bool.{false≢true}
use Rattle.audit_core.specs.Bare.{ListsFirstAsked}
use Rattle.audit_core.specs.Sought.{IsMarkedOf}
use Rattle.audit_core.proofs.AskedLaws.{first_found, first_passed}
use Rattle.audit_core.proofs.SoughtLaws.{dec_marked}
use Rattle.audit_core.proofs.asked.lists_marked.Goals as goal

pub returns-then-was_marked : goal.returns-then-was_marked
returns-then-was_marked c =
    first_found (ListsFirstAsked (IsMarkedOf c.args.output c.args.array.now Refuted) c.args.asked.now c.args.proofs.now) (IsMarkedOf c.args.output c.args.array.now Refuted) c.args.asked.now c.loop-section.section-index c.section-item.result
    c.loop-section-test.true c.section-item.is c.args.proofs.now c.loop-section.invariant c.is_only.result (dec_marked c.args.output c.args.array.now) (c.was_marked.ensures.0 c.if-was_marked.true) c.is_only.ensures

pub loop-section-preserved : goal.loop-section-preserved
loop-section-preserved c =
    first_passed (ListsFirstAsked (IsMarkedOf c.args.output c.args.array.now Refuted) c.args.asked.now c.args.proofs.now) (IsMarkedOf c.args.output c.args.array.now Refuted) c.args.asked.now c.loop-section.section-index c.section-item.result
    c.loop-section-test.true c.section-item.is c.args.proofs.now c.loop-section.invariant (λ h. false≢true (sym c.if-was_marked.false ∙ c.was_marked.ensures.1 h))
