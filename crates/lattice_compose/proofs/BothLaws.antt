-- Lattices one under the other.
use Rattle.std.proofs.Common.{◌≡◌, ℕ, ◌+◌, inl, inr, max, refl, ap, ◌∙◌, arith}
use Rattle.std.specs.Prelude.{All}
use Rattle.lattice_grid.specs.declared.control.Control.{Control}
use Rattle.lattice_grid.specs.declared.control.Control.TheVariants.{Zero, One}
use Rattle.lattice_grid.specs.declared.shape.Place.{Place}
use Rattle.lattice_grid.specs.Control.{value_of, NamesBelow}
use Rattle.lattice_grid.specs.Drawn.{IsDrawn}
use Rattle.lattice_grid.specs.Lattice.{Lattice, IsOver, is_on_at}
use Rattle.lattice_grid.specs.Rails.{MayStand, IsOverRails}
use Rattle.lattice_grid.specs.Realise.{Joined, Cut}
use Rattle.lattice_grid.specs.Rectangle.{Size, IsSize}
use Rattle.lattice_grid.proofs.Tools.{drawn_All, place_eq}
use Rattle.path_meaning.proofs.Tools.{at_least_one, never_both}
use Rattle.lattice_compose.specs.Both.{IsBoth, JoinsBoth}
use Rattle.lattice_compose.specs.Pictures.{control_or, control_stacked}
use Rattle.lattice_compose.proofs.CellLaws.{control_or-inside, control_or-beside, control_stacked-upper, control_stacked-between, control_stacked-lower, place_below, stacked_has}
use Rattle.lattice_compose.proofs.Lines.{shifted}
use Rattle.lattice_compose.proofs.Parts.{IsPart, cut_right, joined_through}

-- ---- the cells
pub IsBoth-drawn : (a b : Lattice) (s : Size) (g : Lattice) → s.rows ≡ a.size.rows + 1 + b.size.rows → s.cols ≡ max a.size.cols b.size.cols → IsDrawn (control_stacked a b) s g → IsBoth a b g
IsBoth-drawn a b s g rows cols h = record {
  rows = high ∙ rows;
  cols = wide ∙ cols;
  upper = λ p within. h.same p (omega (arith, within.0), omega (arith, within.1)) ∙ control_stacked-upper a b p within.0 ∙ control_or-inside a Zero p within;
  upper_filled = λ p row past col. h.same p (omega (arith, high), omega (arith, wide)) ∙ control_stacked-upper a b p row ∙ control_or-beside a Zero p past;
  between = λ p row col. h.same p (omega (arith, high), omega (arith, wide)) ∙ control_stacked-between a b p row;
  lower = λ p within.
      let q : Place = record { row = a.size.rows + 1 + p.row; col = p.col } in
      let back : place_below a q ≡ p = place_eq (place_below a q) p (omega arith) refl in
      h.same q (omega (arith, within.0), omega (arith, within.1)) ∙ control_stacked-lower a b q (omega arith)
      ∙ ap (control_or b Zero) back ∙ control_or-inside b Zero p within;
  lower_filled = λ p past row past' col.
      h.same p (omega (arith, high), omega (arith, wide)) ∙ control_stacked-lower a b p past ∙ control_or-beside b Zero (place_below a p) past';
} where
  high : g.size.rows ≡ s.rows
  high = ap (λ z. z.rows) h.size_is

  wide : g.size.cols ≡ s.cols
  wide = ap (λ z. z.cols) h.size_is

-- ---- literals
stacked_All : (P : Control → Type 0) → P Zero → P One → (a b : Lattice) (s : Size) (g : Lattice) → IsDrawn (control_stacked a b) s g → All P a.cells → All P b.cells → All P g.cells
stacked_All P zero one a b s g h all all' = drawn_All P (control_stacked a b) s g h (λ p _. stacked_has P zero one a b p all all')

pub both_over : (a b : Lattice) (s : Size) (g : Lattice) → IsDrawn (control_stacked a b) s g → (n : ℕ) → IsOver n a → IsOver n b → IsOver n g
both_over a b s g h n over over' = stacked_All (NamesBelow n) tt tt a b s g h over over'

pub both_rails : (a b : Lattice) (s : Size) (g : Lattice) → IsDrawn (control_stacked a b) s g → (n rails : ℕ) → IsOverRails n rails a → IsOverRails n rails b → IsOverRails n rails g
both_rails a b s g h n rails over over' = stacked_All (MayStand n rails) (tt, refl) (tt, refl) a b s g h over over'

-- ---- paths
module _ (a b g : Lattice) (size_a : IsSize a.size) (size_b : IsSize b.size) (h : IsBoth a b g) (x : ℕ) where
  value : {c d : Control} → c ≡ d → value_of c x ≡ value_of d x
  value e = ap (λ z. value_of z x) e

  part_upper : IsPart a.size g.size (is_on_at a x) (is_on_at g x) 0 0
  part_upper = record {
    rows = omega (arith, h.rows);
    cols = omega (arith, h.cols);
    same = λ p within. ap (is_on_at g x) (place_eq (shifted 0 0 p) p (omega arith) (omega arith)) ∙ value (h.upper p within);
  }

  part_lower : IsPart b.size g.size (is_on_at b x) (is_on_at g x) (a.size.rows + 1) 0
  part_lower = record {
    rows = omega (arith, h.rows);
    cols = omega (arith, h.cols);
    same = λ p within.
        ap (is_on_at g x) (place_eq (shifted (a.size.rows + 1) 0 p) (record { row = a.size.rows + 1 + p.row; col = p.col }) (omega arith) (omega arith))
        ∙ value (h.lower p within);
  }

  cut_by_upper : Cut a x → Cut g x
  cut_by_upper c = cut_right a.size g.size (is_on_at a x) (is_on_at g x) 0 part_upper (λ p past col low row. value (h.upper_filled p (omega arith) past col)) c

  cut_by_lower : Cut b x → Cut g x
  cut_by_lower c = cut_right b.size g.size (is_on_at b x) (is_on_at g x) (a.size.rows + 1) part_lower
      (λ p past col low row. value (h.lower_filled p (omega arith) (omega (arith, h.rows)) past col)) c

  joined_upper : Joined g x → Joined a x
  joined_upper j = elim (at_least_one a.size (is_on_at a x) size_a.some_rows size_a.some_cols) [
    | inl upper ↦ upper
    | inr cut_upper ↦ absurd (never_both g.size (is_on_at g x) j (cut_by_upper cut_upper))
  ]

  joined_lower : Joined g x → Joined b x
  joined_lower j = elim (at_least_one b.size (is_on_at b x) size_b.some_rows size_b.some_cols) [
    | inl lower ↦ lower
    | inr cut_lower ↦ absurd (never_both g.size (is_on_at g x) j (cut_by_lower cut_lower))
  ]

  from_both : Joined a x × Joined b x → Joined g x
  from_both j = joined_through a.size b.size g.size (is_on_at a x) (is_on_at b x) (is_on_at g x) part_upper part_lower h.rows (λ p row col. value (h.between p row col)) j.0 j.1

pub joins_both : (a b g : Lattice) → IsSize a.size → IsSize b.size → IsBoth a b g → JoinsBoth a b g
joins_both a b g size_a size_b h x =
    (λ j. (joined_upper a b g size_a size_b h x j, joined_lower a b g size_a size_b h x j), from_both a b g size_a size_b h x)
