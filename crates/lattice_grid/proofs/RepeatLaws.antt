-- The cells of a lattice that repeats the last row and column of another.
use Rattle.std.proofs.Common.{ℕ, ◌+◌, ◌*◌, inl, inr, List, length, get_or, sym, subst}
use Rattle.std.specs.Prelude.{All}
use Rattle.std.proofs.Math.ListN.{get_or-eq_default}
use Rattle.std.proofs.lemmas.Bool.{cases_lt}
use Rattle.lattice_grid.specs.declared.control.Control.{Control}
use Rattle.lattice_grid.specs.declared.control.Control.TheVariants.{Zero}
use Rattle.lattice_grid.specs.Control.{NamesBelow}
use Rattle.lattice_grid.specs.Lattice.{Lattice, IsOver, control_at}
use Rattle.lattice_grid.specs.Rectangle.{Size}
use Rattle.lattice_grid.specs.Repeated.{nearest, IsRepeated}
use Rattle.lattice_grid.specs.Drawn.{IsDrawn}
use Rattle.lattice_grid.specs.Path.{IsWithin}
use Rattle.lattice_grid.specs.Rails.{MayStand, IsOverRails}
use Rattle.lattice_grid.proofs.DrawnLaws.{drawn_All}
use Rattle.lattice_grid.proofs.RailsLaws.{stands_at}

-- a control that is read from a lattice names what its cells name
names_read : (n : ℕ) (cells : List Control) (k : ℕ) → All (NamesBelow n) cells → NamesBelow n (get_or cells k Zero)
names_read n cells k all = elim (cases_lt k (length cells)) [
  | inl within ↦ all k Zero within
  | inr past ↦ subst (NamesBelow n) (sym (get_or-eq_default cells Zero past)) tt
]

-- a lattice that is drawn from the nearest places repeats
pub IsRepeated-drawn : (g : Lattice) (s : Size) (large : Lattice) → IsDrawn (λ p. control_at g (nearest g.size p)) s large → IsRepeated g s large
IsRepeated-drawn g s large h = record { size_is = h.size_is; same = λ p within. h.same p (subst (λ z. IsWithin z p) h.size_is within) }

pub names_drawn : (n : ℕ) (g : Lattice) (s : Size) (large : Lattice) → IsDrawn (λ p. control_at g (nearest g.size p)) s large → IsOver n g → IsOver n large
names_drawn n g s large h over = drawn_All (NamesBelow n) (λ p. control_at g (nearest g.size p)) s large h (λ p _. names_read n g.cells ((nearest g.size p).row * g.size.cols + (nearest g.size p).col) over)

pub stands_drawn : (n rails : ℕ) (g : Lattice) (s : Size) (large : Lattice) → IsDrawn (λ p. control_at g (nearest g.size p)) s large → IsOverRails n rails g → IsOverRails n rails large
stands_drawn n rails g s large h over = drawn_All (MayStand n rails) (λ p. control_at g (nearest g.size p)) s large h (λ p _. stands_at n rails g (nearest g.size p) over)
