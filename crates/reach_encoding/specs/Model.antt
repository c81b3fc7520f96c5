-- The solutions of an encoding that come from a lattice.
use Rattle.std.specs.Prelude.{◌≡◌, ◌↔◌, ℕ, ◌<◌, Bool, true}
use Rattle.clause_core.specs.Formula.{Satisfies}
use Rattle.lattice_grid.specs.Lattice.{Lattice, IsLattice, control_at}
use Rattle.lattice_grid.specs.Rails.{IsOverRails}
use Rattle.path_meaning.specs.Defective.{RealisesIn}
use Rattle.reach_encoding.specs.Encoding.{Question, IsQuestion, cells_of, many_controls, choice, place_of, control_of, encoding}

-- The values make every clause true, and choose at each cell exactly the control that stands there.
pub record IsModel (q : Question) (g : Lattice) (v : ℕ → Bool) : Type 0 where
  pub satisfies : Satisfies v (encoding q)
  pub chooses : (p c : ℕ) → p < cells_of q → c < many_controls q → (v (choice q p c) ≡ true) ↔ (control_at g (place_of q.size p) ≡ control_of q c)

-- Every lattice that answers a question has such values.
abbrev pub HasModel : Type 0
HasModel =
    (q : Question) (g : Lattice) → IsQuestion q → IsLattice g → g.size ≡ q.size → IsOverRails q.function.inputs q.rails g → RealisesIn g q.function q.array
    → (v : ℕ → Bool) × IsModel q g v
