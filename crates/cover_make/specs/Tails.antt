-- What the cubes behind each place of a list have.
use Rattle.std.specs.Prelude.{ℕ, List, [], ◌∷◌, ◌++◌}
use Rattle.cube_core.specs.Members.{Assignments}
use Rattle.cube_core.specs.Cube.{Product}
use Rattle.cover_make.specs.Cubes.{table_of}

-- for each place, from the last to the first, the assignments that some cube behind it has
abbrev pub tails_of : ℕ → List Product → List Assignments
tails_of inputs [] = []
tails_of inputs (c ∷ later) = tails_of inputs later ++ table_of inputs later ∷ []
