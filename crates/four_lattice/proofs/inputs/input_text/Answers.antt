use Rattle.std.proofs.Common.{rules, subst, ◌≡◌}
use Rattle.pla_reader.specs.Reading.{Refused}
use Rattle.pla_reader.specs.declared.pla.PlaRefusal.TheVariants as refusals
use Rattle.four_lattice.specs.Judge.{as_pla}
use Rattle.four_lattice.specs.Uses.{most_pla_bytes}
use Rattle.four_lattice.proofs.InputsLaws.{parse_stops, pla_memory}
use Rattle.four_lattice.proofs.inputs.input_text.Goals as goal

pub returns-in-Err-read_pla-clause-ends : goal.returns-in-Err-read_pla-clause-ends
returns-in-Err-read_pla-clause-ends g c =
    parse_stops as_pla (λ r. r ≡ refusals.TooLong) Refused most_pla_bytes _ (λ r. r) refusals.NoMemory pla_memory c.in-Err-read_pla.refusal c.ending_of_pla.result c.in-Ok.bytes.items c.ending_of_pla.ensures.refused c.ending_of_pla.ensures.wanting
    c.in-Ok.ensures.all c.in-Ok.ensures.end (search rules) (λ other. subst (λ b. Refused b c.in-Err-read_pla.refusal) c.deref.ensures.value (c.in-Err-read_pla.ensures.refused other))
