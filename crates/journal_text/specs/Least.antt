-- What is said of lattices alone: it never mentions a formula.
use Rattle.std.specs.Prelude.{◌≡◌, ◌⊎◌, ℕ, ◌*◌, ◌<◌, ◌≤◌, Some}
use Rattle.cube_core.specs.Function.{Function}
use Rattle.lattice_grid.specs.Defects.{Defects}
use Rattle.lattice_grid.specs.Lattice.{Lattice, IsLattice}
use Rattle.lattice_grid.specs.Rails.{IsFull, IsOverRails}
use Rattle.lattice_grid.specs.Realise.{Realises}
use Rattle.lattice_grid.specs.Start.{pairs_over}
use Rattle.lattice_grid.specs.declared.start.Start.{Start}
use Rattle.lattice_grid.specs.declared.start.Start.TheVariants.{Grid}
use Rattle.dual_product.specs.Dual.{dual_of}
use Rattle.path_meaning.specs.Defective.{RealisesIn}

abbrev pub area : Lattice → ℕ
area g = g.size.rows * g.size.cols

-- A lattice of allowed literals that realises the function.
pub record IsRight (rails : ℕ) (f : Function) (g : Lattice) : Type 0 where
  pub lattice : IsLattice g
  pub over : IsOverRails f.inputs rails g
  pub realises : Realises g f

-- The same on an array.
pub record IsRightOn (rails : ℕ) (f : Function) (a : Defects) (g : Lattice) : Type 0 where
  pub lattice : IsLattice g
  pub over : IsOverRails f.inputs rails g
  pub realises : RealisesIn g f (Some a)

-- No lattice of allowed literals that realises the function has a smaller area.
abbrev pub NoneBelow : ℕ → Function → ℕ → Type 0
NoneBelow rails f least = (g : Lattice) → IsRight rails f g → area g < least → ⊥

-- Where a search begins: the dual product where all literals are allowed; else the lattice of pairs over the rails, or the first pair that no
-- allowed literal tells apart.
abbrev pub IsStart : ℕ → Function → Start → Type 0
IsStart rails f start = (IsFull f.inputs rails × (start ≡ Grid (dual_of f))) ⊎ ((IsFull f.inputs rails → ⊥) × (start ≡ pairs_over f rails))

-- The lattice is no larger than the one where a search begins.
abbrev pub IsNoLarger : ℕ → Function → Lattice → Type 0
IsNoLarger rails f g = (first : Lattice) → IsStart rails f (Grid first) → area g ≤ area first
