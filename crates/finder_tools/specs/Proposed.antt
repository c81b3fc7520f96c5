-- What the finder proposes.
use Rattle.std.specs.Prelude.{◌<◌}
use Rattle.cube_core.specs.Function.{Function}
use Rattle.finder_set.specs.Finders.{area_of}
use Rattle.lattice_grid.specs.Lattice.{Lattice, IsOver}
use Rattle.lattice_grid.specs.Realise.{Realises}

-- The lattice names only the function's inputs, realises it, and has fewer cells than the best one.
pub record IsRightBelow (f : Function) (best g : Lattice) : Type 0 where
  pub over : IsOver f.inputs g
  pub realises : Realises g f
  pub smaller : area_of g < area_of best
