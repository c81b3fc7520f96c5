use Rattle.cube_core.proofs.CubeLaws.{in_cube-at}
use Rattle.cube_core.proofs.cube.Cube.reaches.Goals as goal

pub returns : goal.returns
returns c = λ j within.
    rw (← c.self.view_is) (in_cube-at (record { care = c.self.inside.care; value = c.self.inside.value }) c.self.invariant c.args.place j within)
