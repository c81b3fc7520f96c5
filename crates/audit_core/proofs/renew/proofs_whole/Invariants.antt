use Rattle.journal_text.specs.declared.target.Close.TheVariants.{Refuted}
use Rattle.audit_core.specs.Sought.{IsWholeOf}
use Rattle.audit_core.proofs.RenewLaws.{Gathers}
use Rattle.audit_core.proofs.renew.proofs_whole.Given as goal

abbrev pub invariant-loop-part : goal.invariant-loop-part
invariant-loop-part l = Gathers (IsWholeOf l.output Refuted) l.parts l.part-index l.proofs.items
