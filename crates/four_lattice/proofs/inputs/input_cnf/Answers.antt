use Rattle.std.proofs.Common.{rules, subst, refl}
use Rattle.clause_core.specs.declared.refusal.CnfRefusal.TheVariants as refusals
use Rattle.clause_core.specs.CnfRead.{cnf_of}
use Rattle.std.proofs.Common.{◌≡◌, Err}
use Rattle.four_lattice.specs.Judge.{as_cnf, IsCnfRefused}
use Rattle.four_lattice.specs.Uses.{most_cnf_bytes}
use Rattle.four_lattice.proofs.InputsLaws.{read_stops, parse_stops, cnf_memory, cnf_of-long}
use Rattle.four_lattice.proofs.inputs.input_cnf.Goals as goal

pub returns-clause-ends : goal.returns-clause-ends
returns-clause-ends g c =
    parse_stops as_cnf (λ r. r ≡ refusals.TooLong) IsCnfRefused most_cnf_bytes _ (λ r. r) refusals.NoMemory cnf_memory c.in-Err-read_cnf.refusal c.ending_of_cnf.result c.in-Ok.bytes.items c.ending_of_cnf.ensures.refused c.ending_of_cnf.ensures.wanting
    c.in-Ok.ensures.all c.in-Ok.ensures.end (search rules) (λ other. subst (λ b. cnf_of b ≡ Err c.in-Err-read_cnf.refusal) c.deref.ensures.value (search rules))

pub returns-in-Err-clause-ends : goal.returns-in-Err-clause-ends
returns-in-Err-clause-ends g c = rw c.ending_of_read.ensures (read_stops as_cnf (λ r. r ≡ refusals.TooLong) IsCnfRefused most_cnf_bytes _ refusals.TooLong refl cnf_of-long c.in-Err.fault c.in-Err.ensures.refused)
