use Rattle.std.proofs.Common.{ap, ◌∙◌, cond, nat_eq, None}
use Rattle.cube_core.specs.Cube.{literal_of}
use Rattle.cube_core.proofs.CubeLaws.{literals-without, IsProduct-without}
use Rattle.cube_core.proofs.cube.Cube.without.Goals as goal

pub invariant_of-result : goal.invariant_of-result
invariant_of-result c = IsProduct-without (record { care = c.self.inside.care; value = c.self.inside.value }) c.args.input c.self.invariant

pub returns-clause-product : goal.returns-clause-product
returns-clause-product c = invariant_of-result c

pub returns-clause-literals : goal.returns-clause-literals
returns-clause-literals c = λ i.
    literals-without (record { care = c.self.inside.care; value = c.self.inside.value }) c.args.input c.self.invariant c.requires i
    ∙ ap (λ p. cond (nat_eq i c.args.input) None (literal_of p i)) c.self.view_is
