use Rattle.std.proofs.Common.{take}
use Rattle.std.specs.Prelude.{All}
use Rattle.journal_text.specs.Parts.{part_of}
use Rattle.journal_text.specs.declared.target.Close.TheVariants.{Refuted}
use Rattle.audit_core.specs.Sought.{IsSection, IsMarkedOf}
use Rattle.audit_core.proofs.RenewLaws.{Firsts}
use Rattle.audit_core.proofs.renew.first_marked.Given as goal

abbrev pub invariant-loop-part : goal.invariant-loop-part
invariant-loop-part l = Firsts l.output l.array l.parts l.part-index × All (λ p. IsSection (IsMarkedOf l.output l.array Refuted) (part_of p) → ⊥) (take l.part-index l.parts)
