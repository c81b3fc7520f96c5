use Rattle.std.proofs.Common.{length, ap, arith}
use Rattle.std.proofs.lemmas.List.{length-map}
use Rattle.journal_text.specs.Parts.{part_of, parts_of_journal}
use Rattle.audit_core.proofs.SeenLaws.{few_parts}
use Rattle.audit_core.proofs.audit.test_journal.Goals as goal

pub test_parts-requires-clause-few : goal.test_parts-requires-clause-few
test_parts-requires-clause-few c =
    let few = few_parts (parts_of_journal c.args.journal.now) c.requires.journal c.requires.few in
    let many = length-map c.args.journal.now.parts.items part_of in
    let same = ap length c.deref.ensures.value in
    omega (arith, few, many, same)
