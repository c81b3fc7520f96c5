use Rattle.std.proofs.Common.{rules, ◌≡◌}
use Rattle.journal_text.specs.declared.refusal.JournalRefusal.TheVariants as refusals
use Rattle.four_lattice.specs.Judge.{IsJournalRefused}
use Rattle.four_lattice.specs.Uses.{most_side_bytes}
use Rattle.four_lattice.specs.declared.ending.SideRefusal.TheVariants as sides
use Rattle.four_lattice.specs.declared.ending.Refusal.TheVariants as levels
use Rattle.four_lattice.proofs.InputsLaws.{parse_stops, journal_memory}
use Rattle.four_lattice.proofs.inputs.input_journal.Goals as goal

pub returns-clause-ends : goal.returns-clause-ends
returns-clause-ends g c =
    parse_stops levels.Side (λ r. r ≡ sides.TooLong) IsJournalRefused most_side_bytes _ sides.Journal refusals.NoMemory journal_memory c.in-Err-read_journal.refusal c.ending_of_journal.result c.in-Ok.bytes.items c.ending_of_journal.ensures.refused c.ending_of_journal.ensures.wanting
    c.in-Ok.ensures.all c.in-Ok.ensures.end (search rules) (λ other. search rules)
