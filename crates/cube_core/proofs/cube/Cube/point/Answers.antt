use Rattle.cube_core.proofs.CubeLaws.{IsProduct-point, literals-point, in_cube-point}
use Rattle.cube_core.proofs.cube.Cube.point.Goals as goal

pub invariant_of-result : goal.invariant_of-result
invariant_of-result c = IsProduct-point c.args.inputs c.number.result c.requires

pub returns-clause-product : goal.returns-clause-product
returns-clause-product c = invariant_of-result c

pub returns-clause-literals : goal.returns-clause-literals
returns-clause-literals c = λ i. rw (← c.number.ensures.same) (literals-point c.args.inputs c.number.result c.requires i)

pub returns-clause-members : goal.returns-clause-members
returns-clause-members c = λ y. rw (← c.number.ensures.same) (in_cube-point c.args.inputs c.number.result c.requires y)
