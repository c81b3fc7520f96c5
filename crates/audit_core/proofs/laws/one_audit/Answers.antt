use Rattle.journal_text.specs.Parts.{parts_of_journal}
use Rattle.audit_core.specs.Audit.{basis_of}
use Rattle.audit_core.proofs.RefusalLaws.{not_right, one_refusal}
use Rattle.audit_core.proofs.laws.one_audit.Goals as goal

pub returns-clause-either : goal.returns-clause-either
returns-clause-either c parts journal refusal pla audited refused = not_right (basis_of parts (parts_of_journal journal)) journal.parts.items refusal pla.functions audited refused

pub returns-clause-one : goal.returns-clause-one
returns-clause-one c parts journal a b pla p q = one_refusal (basis_of parts (parts_of_journal journal)) journal.parts.items a b pla.functions p q
