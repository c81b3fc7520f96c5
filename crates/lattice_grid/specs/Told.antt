-- Lattices with a column for each on assignment and a row for each off assignment.
use Rattle.std.specs.Prelude.{ℕ, ◌≤◌, All, List, length, map}
use Rattle.std.specs.List.{flat_map}
use Rattle.lattice_grid.specs.declared.control.Control.{Control}
use Rattle.lattice_grid.specs.Lattice.{Lattice}

-- row by row, for each off assignment and each on assignment the control that tells them apart
abbrev pub told_cells : (ℕ → ℕ → Control) → List ℕ → List ℕ → List Control
told_cells literal ons offs = flat_map (λ off. map (λ on. literal on off) ons) offs

abbrev pub told_lattice : (ℕ → ℕ → Control) → List ℕ → List ℕ → Lattice
told_lattice literal ons offs = record { size = record { rows = length offs; cols = length ons }; cells = told_cells literal ons offs }

-- Each on assignment can be told from each off assignment, and there are as many of each as a lattice has room for.
pub record AreTold (CanTell : ℕ → ℕ → Type 0) (ons offs : List ℕ) : Type 0 where
  pub told : All (λ off. All (λ on. CanTell on off) ons) offs
  pub few_ons : length ons ≤ 1024
  pub few_offs : length offs ≤ 1024
