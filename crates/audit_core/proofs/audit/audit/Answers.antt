use Rattle.pla_reader.specs.Parts.{parts_of}
use Rattle.journal_text.specs.Parts.{parts_of_journal}
use Rattle.audit_core.specs.Audit.{basis_of}
use Rattle.audit_core.proofs.RefusalLaws.{only_refused, only_right}
use Rattle.audit_core.proofs.audit.audit.Goals as goal

pub returns-clause-only_audited : goal.returns-clause-only_audited
returns-clause-only_audited c right =
    only_right c.test_journal.result (basis_of (parts_of c.args.pla.now) (parts_of_journal c.args.journal.now)) c.args.journal.now.parts.items c.requires.pla.functions c.test_journal.ensures.refused right

pub returns-clause-only_refusal : goal.returns-clause-only_refusal
returns-clause-only_refusal c refusal refused =
    only_refused c.test_journal.result (basis_of (parts_of c.args.pla.now) (parts_of_journal c.args.journal.now)) c.args.journal.now.parts.items c.requires.pla.functions c.test_journal.ensures.audited c.test_journal.ensures.refused refusal refused
