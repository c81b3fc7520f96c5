use Rattle.std.proofs.Common.{map, refl}
use Rattle.report_text.specs.declared.answer.Version.TheVariants.{Two}
use Rattle.journal_text.specs.Parts.{JournalParts, part_of, parts_of_journal}
use Rattle.audit_core.proofs.RenewedLaws.{few_steps, renewed_right}
use Rattle.audit_core.proofs.renew.renewed.Goals as goal

pub relist_all-requires : goal.relist_all-requires
relist_all-requires c = few_steps (parts_of_journal c.args.journal) c.requires.few

pub returns-clause-right : goal.returns-clause-right
returns-clause-right c parts audited =
    let new : JournalParts = record { version = Two; rails = c.args.journal.rails; parts = map part_of c.in_ok-parts.parts.items } in
    renewed_right parts (parts_of_journal c.args.journal) new c.requires.journal (few_steps (parts_of_journal c.args.journal) c.requires.few)
    (record { version = refl; rails = refl; same = c.in_ok-parts.ensures.same }) c.in_ok-parts.ensures.listed audited
