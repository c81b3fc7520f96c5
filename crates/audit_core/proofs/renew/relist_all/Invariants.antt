use Rattle.std.proofs.Common.{map}
use Rattle.journal_text.specs.Parts.{part_of}
use Rattle.audit_core.proofs.RenewLaws.{IsRelisting}
use Rattle.audit_core.proofs.renew.relist_all.Given as goal

abbrev pub invariant-loop-part : goal.invariant-loop-part
invariant-loop-part l = IsRelisting (map part_of l.made.items) (map part_of l.part-iterator.rest.items) (map part_of l.fn.parts.items)
