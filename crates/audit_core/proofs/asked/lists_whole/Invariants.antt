use Rattle.std.proofs.Common.{◌↔◌, drop}
use Rattle.journal_text.specs.declared.target.Close.TheVariants.{Refuted}
use Rattle.audit_core.specs.Bare.{ListsAsked}
use Rattle.audit_core.specs.Sought.{IsWholeOf}
use Rattle.audit_core.proofs.asked.lists_whole.Given as goal

abbrev pub invariant-loop-section : goal.invariant-loop-section
invariant-loop-section l = ListsAsked (IsWholeOf l.output Refuted) l.asked l.proofs ↔ ListsAsked (IsWholeOf l.output Refuted) (drop l.section-index l.asked) l.rest
