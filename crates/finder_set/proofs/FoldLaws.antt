-- Lattices with two neighbouring columns or rows made one.
use Rattle.std.proofs.Common.{◌≡◌, ℕ, ◌*◌, ◌<◌, ◌≤◌, cond, ltb, sym, ◌∙◌, subst, arith}
use Rattle.std.proofs.Math.Nat.{mul-le-mul_left}
use Rattle.std.proofs.lemmas.Bool.{cond-true, cond-false, cond_both, lt-ltb, le-ltb}
use Rattle.finder_set.specs.declared.folded.Neighbours.{Neighbours}
use Rattle.finder_set.specs.declared.folded.Neighbours.TheVariants.{Columns, Rows}
use Rattle.finder_set.specs.Folded.{folded_control, IsCovered}
use Rattle.finder_set.specs.Folding.{cell_of_two, number_in, next_to, IsOneLess, IsFolded}
use Rattle.lattice_compose.proofs.Tools.{read_has}
use Rattle.lattice_grid.specs.declared.control.Control.{Control}
use Rattle.lattice_grid.specs.declared.control.Control.TheVariants.{Zero, One, Plain, Bar}
use Rattle.lattice_grid.specs.declared.shape.Place.{Place}
use Rattle.lattice_grid.specs.Control.{NamesBelow}
use Rattle.lattice_grid.specs.Drawn.{IsDrawn}
use Rattle.lattice_grid.specs.Lattice.{Lattice, IsOver, control_at}
use Rattle.lattice_grid.specs.Path.{IsWithin}
use Rattle.lattice_grid.specs.Rectangle.{Size, IsSize}
use Rattle.lattice_grid.proofs.Tools.{drawn_All}

-- ---- what stands where
module _ (lines : Neighbours) (number : ℕ) (a : Lattice) (p : Place) where
  abbrev next_or_two : Control
  next_or_two = cond (ltb number (number_in lines p)) (control_at a (next_to lines p)) (cell_of_two lines (control_at a p) (control_at a (next_to lines p)))

  folded_control-before : number_in lines p < number → folded_control lines number a p ≡ control_at a p
  folded_control-before h = cond-true (ltb (number_in lines p) number) (control_at a p) next_or_two (lt-ltb (number_in lines p) number h)

  folded_control-here : number_in lines p ≡ number → folded_control lines number a p ≡ cell_of_two lines (control_at a p) (control_at a (next_to lines p))
  folded_control-here h =
      cond-false (ltb (number_in lines p) number) (control_at a p) next_or_two (le-ltb (number_in lines p) number (omega arith))
      ∙ cond-false (ltb number (number_in lines p)) (control_at a (next_to lines p)) (cell_of_two lines (control_at a p) (control_at a (next_to lines p))) (le-ltb number (number_in lines p) (omega arith))

  folded_control-after : number < number_in lines p → folded_control lines number a p ≡ control_at a (next_to lines p)
  folded_control-after h =
      cond-false (ltb (number_in lines p) number) (control_at a p) next_or_two (le-ltb (number_in lines p) number (omega arith))
      ∙ cond-true (ltb number (number_in lines p)) (control_at a (next_to lines p)) (cell_of_two lines (control_at a p) (control_at a (next_to lines p))) (lt-ltb number (number_in lines p) h)

pub IsFolded-drawn : (lines : Neighbours) (number : ℕ) (a : Lattice) (s : Size) (g : Lattice) → IsOneLess lines a.size s → IsDrawn (folded_control lines number a) s g → IsFolded lines number a g
IsFolded-drawn lines number a s g less h = record {
  size = subst (λ (z : Size). IsOneLess lines a.size z) (sym h.size_is) less;
  before = λ p within below. h.same p (subst (λ (z : Size). IsWithin z p) h.size_is within) ∙ folded_control-before lines number a p below;
  here = λ p within same. h.same p (subst (λ (z : Size). IsWithin z p) h.size_is within) ∙ folded_control-here lines number a p same;
  after = λ p within above. h.same p (subst (λ (z : Size). IsWithin z p) h.size_is within) ∙ folded_control-after lines number a p above;
}

-- ---- which inputs are named
pub two_named : (n : ℕ) (lines : Neighbours) (x y : Control) → NamesBelow n x → NamesBelow n y → NamesBelow n (cell_of_two lines x y)
two_named n Columns Zero y hx hy = hy
two_named n Columns One y hx hy = hx
two_named n Columns (Plain i) y hx hy = hx
two_named n Columns (Bar i) y hx hy = hx
two_named n Rows Zero y hx hy = hx
two_named n Rows One y hx hy = hy
two_named n Rows (Plain i) y hx hy = hx
two_named n Rows (Bar i) y hx hy = hx

folded_named : (n : ℕ) (lines : Neighbours) (number : ℕ) (a : Lattice) (p : Place) → IsOver n a → NamesBelow n (folded_control lines number a p)
folded_named n lines number a p over =
    let here : NamesBelow n (control_at a p) = read_has (NamesBelow n) tt tt a p over in
    let next : NamesBelow n (control_at a (next_to lines p)) = read_has (NamesBelow n) tt tt a (next_to lines p) over in
    cond_both (ltb (number_in lines p) number) (control_at a p) (next_or_two lines number a p) (NamesBelow n) (λ _. here)
    (λ _. cond_both (ltb number (number_in lines p)) (control_at a (next_to lines p)) (cell_of_two lines (control_at a p) (control_at a (next_to lines p))) (NamesBelow n) (λ _. next)
    (λ _. two_named n lines (control_at a p) (control_at a (next_to lines p)) here next))

pub folded_over : (lines : Neighbours) (number : ℕ) (a : Lattice) (s : Size) (g : Lattice) → IsDrawn (folded_control lines number a) s g → (n : ℕ) → IsOver n a → IsOver n g
folded_over lines number a s g h n over = drawn_All (NamesBelow n) (folded_control lines number a) s g h (λ p _. folded_named n lines number a p over)

-- ---- which places there are
pub covered : (lines : Neighbours) (whole less : Size) (p : Place) → IsSize whole → IsOneLess lines whole less → IsWithin less p → IsCovered lines whole p
covered Columns whole less p size one within =
    let few : whole.cols ≤ whole.rows * whole.cols = omega (arith, mul-le-mul_left whole.cols size.some_rows) in
    record {
      here = (omega (arith, one.0, within.0), omega (arith, one.1, within.1));
      next = (omega (arith, one.0, within.0), omega (arith, one.1, within.1));
      few = omega (arith, one.1, within.1, size.few);
    }
covered Rows whole less p size one within =
    let few : whole.rows ≤ whole.rows * whole.cols = omega (arith, mul-le-mul_left whole.rows size.some_cols) in
    record {
      here = (omega (arith, one.0, within.0), omega (arith, one.1, within.1));
      next = (omega (arith, one.0, within.0), omega (arith, one.1, within.1));
      few = omega (arith, one.0, within.0, size.few);
    }
