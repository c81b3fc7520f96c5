use Rattle.std.proofs.Common.{rules}
use Rattle.cube_core.proofs.CubeLaws.{in_cube-free}
use Rattle.cube_core.proofs.cube.Cube.full.Goals as goal

pub returns-clause-members : goal.returns-clause-members
returns-clause-members c = λ x. in_cube-free (record { care = 0; value = 0 }) x (λ i. search rules)
