-- For the crate's own proofs: when two lattices that are put together join their plates. What is proposed stands in Splitting.
use Rattle.std.specs.Prelude.{ℕ, ◌<◌, ◌≤◌, take, drop, MatchOption}
use Rattle.std.specs.declared.option.Option.{Option}
use Rattle.cover_make.specs.Cubes.{Products}
use Rattle.dual_product.specs.Dual.{dual_of}
use Rattle.finder_set.specs.declared.split.Side.{Side}
use Rattle.finder_set.specs.declared.split.Side.TheVariants.{On, Off}
use Rattle.finder_set.specs.Splitting.{IsPut, area_put, half_of, part_of}
use Rattle.lattice_compose.specs.Both.{JoinsBoth}
use Rattle.lattice_compose.specs.Either.{JoinsEither}
use Rattle.lattice_grid.specs.Lattice.{Lattice, IsOver}

abbrev pub JoinsPut : Side → Lattice → Lattice → Lattice → Type 0
JoinsPut On a b g = JoinsEither a b g
JoinsPut Off a b g = JoinsBoth a b g

pub record IsPutTogether (side : Side) (a b g : Lattice) : Type 0 where
  pub room : area_put side a.size b.size ≤ 1048576
  pub put : IsPut side a b g
  pub joined : JoinsPut side a b g
  pub over : (n : ℕ) → IsOver n a → IsOver n b → IsOver n g

abbrev pub HasPut : Side → Lattice → Lattice → Option Lattice → Type 0
HasPut side a b answer = MatchOption answer (1048576 < area_put side a.size b.size) (IsPutTogether side a b)

-- what comes of the dual products of the two parts of a list
abbrev pub HasPutParts : Side → Products → Option Lattice → Type 0
HasPutParts side list answer =
    HasPut side (dual_of (part_of side list.inputs (take (half_of list.cubes) list.cubes))) (dual_of (part_of side list.inputs (drop (half_of list.cubes) list.cubes))) answer
