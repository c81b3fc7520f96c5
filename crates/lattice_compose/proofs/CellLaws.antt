-- The controls that are put at the places of new lattices.
use Rattle.std.proofs.Common.{◌≡◌, ℕ, ◌+◌, ◌-◌, ◌*◌, ◌<◌, ◌≤◌, ◌&&◌, inl, inr, cond, ltb, length, sym, ◌∙◌, subst, arith}
use Rattle.std.specs.Prelude.{All}
use Rattle.std.proofs.Math.ListN.{get_or-eq_default}
use Rattle.std.proofs.lemmas.Bool.{cases_lt, cond-true, cond-false, cond_both, lt-ltb, le-ltb, and_from, and_left, and_right}
use Rattle.lattice_grid.specs.declared.control.Control.{Control}
use Rattle.lattice_grid.specs.declared.control.Control.TheVariants.{Zero, One}
use Rattle.lattice_grid.specs.declared.shape.Place.{Place}
use Rattle.lattice_grid.specs.Lattice.{Lattice, control_at}
use Rattle.lattice_grid.specs.Path.{IsWithin}
use Rattle.lattice_compose.specs.Pictures.{control_or, control_beside, control_stacked}

-- ---- what stands where
pub control_or-inside : (g : Lattice) (outside : Control) (p : Place) → IsWithin g.size p → control_or g outside p ≡ control_at g p
control_or-inside g outside p within =
    cond-true (ltb p.row g.size.rows && ltb p.col g.size.cols) (control_at g p) outside
    (and_from (ltb p.row g.size.rows) (ltb p.col g.size.cols) (lt-ltb p.row g.size.rows within.0) (lt-ltb p.col g.size.cols within.1))

pub control_or-below : (g : Lattice) (outside : Control) (p : Place) → g.size.rows ≤ p.row → control_or g outside p ≡ outside
control_or-below g outside p past =
    cond-false (ltb p.row g.size.rows && ltb p.col g.size.cols) (control_at g p) outside (and_left (ltb p.row g.size.rows) (ltb p.col g.size.cols) (le-ltb p.row g.size.rows past))

pub control_or-beside : (g : Lattice) (outside : Control) (p : Place) → g.size.cols ≤ p.col → control_or g outside p ≡ outside
control_or-beside g outside p past =
    cond-false (ltb p.row g.size.rows && ltb p.col g.size.cols) (control_at g p) outside (and_right (ltb p.row g.size.rows) (ltb p.col g.size.cols) (le-ltb p.col g.size.cols past))

-- the place in the second of two lattices
abbrev pub place_right : Lattice → Place → Place
place_right a p = record { row = p.row; col = p.col - a.size.cols - 1 }

abbrev pub place_below : Lattice → Place → Place
place_below a p = record { row = p.row - a.size.rows - 1; col = p.col }

module _ (a b : Lattice) (p : Place) where
  abbrev right_or_between : Control
  right_or_between = cond (ltb a.size.cols p.col) (control_or b One (place_right a p)) Zero

  abbrev below_or_between : Control
  below_or_between = cond (ltb a.size.rows p.row) (control_or b Zero (place_below a p)) One

  pub control_beside-left : p.col < a.size.cols → control_beside a b p ≡ control_or a One p
  control_beside-left h = cond-true (ltb p.col a.size.cols) (control_or a One p) right_or_between (lt-ltb p.col a.size.cols h)

  pub control_beside-between : p.col ≡ a.size.cols → control_beside a b p ≡ Zero
  control_beside-between h =
      cond-false (ltb p.col a.size.cols) (control_or a One p) right_or_between (le-ltb p.col a.size.cols (omega arith))
      ∙ cond-false (ltb a.size.cols p.col) (control_or b One (place_right a p)) Zero (le-ltb a.size.cols p.col (omega arith))

  pub control_beside-right : a.size.cols < p.col → control_beside a b p ≡ control_or b One (place_right a p)
  control_beside-right h =
      cond-false (ltb p.col a.size.cols) (control_or a One p) right_or_between (le-ltb p.col a.size.cols (omega arith))
      ∙ cond-true (ltb a.size.cols p.col) (control_or b One (place_right a p)) Zero (lt-ltb a.size.cols p.col h)

  pub control_stacked-upper : p.row < a.size.rows → control_stacked a b p ≡ control_or a Zero p
  control_stacked-upper h = cond-true (ltb p.row a.size.rows) (control_or a Zero p) below_or_between (lt-ltb p.row a.size.rows h)

  pub control_stacked-between : p.row ≡ a.size.rows → control_stacked a b p ≡ One
  control_stacked-between h =
      cond-false (ltb p.row a.size.rows) (control_or a Zero p) below_or_between (le-ltb p.row a.size.rows (omega arith))
      ∙ cond-false (ltb a.size.rows p.row) (control_or b Zero (place_below a p)) One (le-ltb a.size.rows p.row (omega arith))

  pub control_stacked-lower : a.size.rows < p.row → control_stacked a b p ≡ control_or b Zero (place_below a p)
  control_stacked-lower h =
      cond-false (ltb p.row a.size.rows) (control_or a Zero p) below_or_between (le-ltb p.row a.size.rows (omega arith))
      ∙ cond-true (ltb a.size.rows p.row) (control_or b Zero (place_below a p)) One (lt-ltb a.size.rows p.row h)

-- ---- what is true of the constants and of each cell of two lattices
module _ (P : Control → Type 0) (zero : P Zero) (one : P One) where
  -- is true of what is read at any place
  pub read_has : (g : Lattice) (p : Place) → All P g.cells → P (control_at g p)
  read_has g p all =
      let i : ℕ = p.row * g.size.cols + p.col in
      elim (cases_lt i (length g.cells)) [
        | inl within ↦ all i Zero within
        | inr past ↦ subst P (sym (get_or-eq_default g.cells Zero past)) zero
      ]

  read_or_has : (g : Lattice) (outside : Control) (p : Place) → All P g.cells → P outside → P (control_or g outside p)
  read_or_has g outside p all other = cond_both (ltb p.row g.size.rows && ltb p.col g.size.cols) (control_at g p) outside P (λ _. read_has g p all) (λ _. other)

  pub beside_has : (a b : Lattice) (p : Place) → All P a.cells → All P b.cells → P (control_beside a b p)
  beside_has a b p all all' =
      cond_both (ltb p.col a.size.cols) (control_or a One p) (right_or_between a b p) P (λ _. read_or_has a One p all one)
      (λ _. cond_both (ltb a.size.cols p.col) (control_or b One (place_right a p)) Zero P (λ _. read_or_has b One (place_right a p) all' one) (λ _. zero))

  pub stacked_has : (a b : Lattice) (p : Place) → All P a.cells → All P b.cells → P (control_stacked a b p)
  stacked_has a b p all all' =
      cond_both (ltb p.row a.size.rows) (control_or a Zero p) (below_or_between a b p) P (λ _. read_or_has a Zero p all zero)
      (λ _. cond_both (ltb a.size.rows p.row) (control_or b Zero (place_below a p)) One P (λ _. read_or_has b Zero (place_below a p) all' zero) (λ _. one))
