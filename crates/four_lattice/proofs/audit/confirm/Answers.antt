use Rattle.std.proofs.Common.{◌∙◌, ap, length, arith}
use Rattle.journal_text.specs.Parts.{parts_of_journal}
use Rattle.pla_reader.specs.Parts.{parts_of}
use Rattle.four_lattice.proofs.AuditedLaws.{audit_ends}
use Rattle.four_lattice.proofs.CommandLaws.{confirmed_many}
use Rattle.four_lattice.proofs.audit.confirm.Goals as goal

pub returns-in-Ok-clause-many : goal.returns-in-Ok-clause-many
returns-in-Ok-clause-many c =
    let len = c.len.ensures in
    let ok = c.in-Ok.confirmed.ok.0 in
    let all = ap length c.in-Ok.ensures.confirmed ∙ confirmed_many 0 (parts_of_journal c.args.journal.now).parts in
    omega (arith, len, ok, all)

pub returns-in-Err-clause-ends : goal.returns-in-Err-clause-ends
returns-in-Err-clause-ends c =
    audit_ends (parts_of c.args.text.now) c.args.journal.now c.in-Err.refusal c.ending_of_audit.result c.requires.lines c.in-Err.ensures.refused c.ending_of_audit.ensures.refused c.ending_of_audit.ensures.wanting
