-- Lattices put together from the dual products of two parts of a cover.
use Rattle.std.specs.Prelude.{◌≡◌, ◌⊎◌, ℕ, ◌+◌, ◌*◌, ◌/◌, ◌<◌, ◌≤◌, max, List, length, take, drop, MatchOption}
use Rattle.std.specs.declared.option.Option.{Option}
use Rattle.std.specs.FinSet as set
use Rattle.cover_make.specs.Cover.{off_cover_of}
use Rattle.cover_make.specs.Cubes.{table_of}
use Rattle.cube_core.specs.Cube.{Product}
use Rattle.cube_core.specs.Function.{Function}
use Rattle.cube_core.specs.Members.{complement_of}
use Rattle.dual_product.specs.Dual.{dual_of, on_cover_of}
use Rattle.finder_set.specs.declared.split.Side.{Side}
use Rattle.finder_set.specs.declared.split.Side.TheVariants.{On, Off}
use Rattle.lattice_compose.specs.Both.{IsBoth}
use Rattle.lattice_compose.specs.Either.{IsEither}
use Rattle.lattice_grid.specs.Lattice.{Lattice, IsOver}
use Rattle.lattice_grid.specs.Realise.{Realises}
use Rattle.lattice_grid.specs.Rectangle.{Size}

-- the cubes that are parted: those of the dual product's on cover, or those of its off cover
abbrev pub cubes_of : Side → Function → List Product
cubes_of On f = (on_cover_of f).cubes
cubes_of Off f = off_cover_of (on_cover_of f)

-- how many of t cubes are in the first part: (t + 1) / 2, rounded down
abbrev pub half_of : List Product → ℕ
half_of cubes = (length cubes + 1) / 2

-- the function of a part: the assignments of its cubes are on and all others off, or the other way round
abbrev pub part_of : Side → ℕ → List Product → Function
part_of On inputs cubes = record { inputs = inputs; on = table_of inputs cubes; off = complement_of inputs (table_of inputs cubes) }
part_of Off inputs cubes = record { inputs = inputs; on = complement_of inputs (table_of inputs cubes); off = table_of inputs cubes }

-- the dual products of the two parts
abbrev pub first_of : Side → Function → Lattice
first_of side f = dual_of (part_of side f.inputs (take (half_of (cubes_of side f)) (cubes_of side f)))

abbrev pub other_of : Side → Function → Lattice
other_of side f = dual_of (part_of side f.inputs (drop (half_of (cubes_of side f)) (cubes_of side f)))

-- the two lattices side by side, or one under the other
abbrev pub IsPut : Side → Lattice → Lattice → Lattice → Type 0
IsPut On a b g = IsEither a b g
IsPut Off a b g = IsBoth a b g

-- how many cells that lattice has
abbrev pub area_put : Side → Size → Size → ℕ
area_put On a b = max a.rows b.rows * (a.cols + 1 + b.cols)
area_put Off a b = (a.rows + 1 + b.rows) * max a.cols b.cols

-- The proposal is the dual products of the two parts put together; some assignments are on and some off, there are two cubes at least, and a lattice has room for so
-- many cells.
pub record IsSplit (side : Side) (f : Function) (g : Lattice) : Type 0 where
  pub some_on : f.on ≡ set.empty → ⊥
  pub some_off : f.off ≡ set.empty → ⊥
  pub cubes : 2 ≤ length (cubes_of side f)
  pub room : area_put side (first_of side f).size (other_of side f).size ≤ 1048576
  pub put : IsPut side (first_of side f) (other_of side f) g

-- There is no proposal exactly where no assignment is on or none off, there are fewer than two cubes, or a lattice has no room for so many cells.
abbrev pub CannotSplit : Side → Function → Type 0
CannotSplit side f = (f.on ≡ set.empty) ⊎ (f.off ≡ set.empty) ⊎ (length (cubes_of side f) < 2) ⊎ (1048576 < area_put side (first_of side f).size (other_of side f).size)

abbrev pub ProposesSplit : Side → Function → Option Lattice → Type 0
ProposesSplit side f ready = MatchOption ready (CannotSplit side f) (IsSplit side f)

-- The lattice names only the function's inputs, and realises it.
pub record IsRight (f : Function) (g : Lattice) : Type 0 where
  pub over : IsOver f.inputs g
  pub realises : Realises g f
