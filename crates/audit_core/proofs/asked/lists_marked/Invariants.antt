use Rattle.std.proofs.Common.{◌↔◌, drop}
use Rattle.journal_text.specs.declared.target.Close.TheVariants.{Refuted}
use Rattle.audit_core.specs.Bare.{ListsFirstAsked}
use Rattle.audit_core.specs.Sought.{IsMarkedOf}
use Rattle.audit_core.proofs.asked.lists_marked.Given as goal

abbrev pub invariant-loop-section : goal.invariant-loop-section
invariant-loop-section l = ListsFirstAsked (IsMarkedOf l.output l.array Refuted) l.asked l.proofs ↔ ListsFirstAsked (IsMarkedOf l.output l.array Refuted) (drop l.section-index l.asked) l.proofs
