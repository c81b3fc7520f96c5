use Rattle.std.proofs.Common.{subst, drop}
use Rattle.defect_array.specs.Reading.{Refused as IsNoArray}
use Rattle.four_lattice.proofs.InputsLaws.{no_array}
use Rattle.four_lattice.proofs.inputs.input_array.Goals as goal

pub returns-in-Err-clause-ends : goal.returns-in-Err-clause-ends
returns-in-Err-clause-ends c =
    no_array (drop c.args.text.now.pla.rest c.args.text.now.bytes.items) c.in-Err.refusal c.ending_of_array.result c.ending_of_array.ensures.refused c.ending_of_array.ensures.wanting (λ other. subst (λ b. IsNoArray b c.in-Err.refusal) c.behind.ensures.same (c.in-Err.ensures.refused other))
