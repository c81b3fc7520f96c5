use Rattle.std.proofs.Common.{◌≡◌, ℕ, sym, ◌∙◌}
use Rattle.cube_core.specs.Function.{Function}
use Rattle.lattice_grid.specs.declared.start.Start.{Start}
use Rattle.lattice_grid.specs.declared.start.Start.TheVariants.{Grid, Lacking}
use Rattle.lattice_grid.specs.Columns.{IsNotLacking}
use Rattle.lattice_grid.specs.Lattice.{Lattice}
use Rattle.lattice_grid.specs.Start.{pairs_over}
use Rattle.grid_rows.proofs.rails.columns_of_all_literals.Goals as goal

-- where the answer is a lattice no pair is lacking
lattice_or_pair : (g : Lattice) (x y : ℕ) → Grid g ≡ Lacking x y → ⊥
lattice_or_pair g x y e = cc

told : (f : Function) (rails : ℕ) (s : Start) (g : Lattice) → s ≡ pairs_over f rails → s ≡ Grid g → IsNotLacking f rails
told f rails s g e is x y lacking = lattice_or_pair g x y (sym is ∙ e ∙ lacking)

pub columns-requires-clause-told : goal.columns-requires-clause-told
columns-requires-clause-told g c = told _ _ _ _ c.in_ok-pairs_with.ensures.start c.in-Grid.is
