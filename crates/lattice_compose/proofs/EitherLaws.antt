-- Lattices side by side.
use Rattle.std.proofs.Common.{◌≡◌, ℕ, ◌+◌, ◌⊎◌, inl, inr, max, refl, ap, ◌∙◌, arith}
use Rattle.std.specs.Prelude.{All}
use Rattle.lattice_grid.specs.declared.control.Control.{Control}
use Rattle.lattice_grid.specs.declared.control.Control.TheVariants.{Zero, One}
use Rattle.lattice_grid.specs.declared.shape.Place.{Place}
use Rattle.lattice_grid.specs.Control.{value_of, NamesBelow}
use Rattle.lattice_grid.specs.Drawn.{IsDrawn}
use Rattle.lattice_grid.specs.Lattice.{Lattice, IsOver, is_on_at}
use Rattle.lattice_grid.specs.Rails.{MayStand, IsOverRails}
use Rattle.lattice_grid.specs.Realise.{Joined, Cut}
use Rattle.lattice_grid.specs.Rectangle.{Size, IsSize}
use Rattle.lattice_grid.proofs.Tools.{drawn_All, place_eq}
use Rattle.path_meaning.proofs.Tools.{at_least_one, never_both}
use Rattle.lattice_compose.specs.Either.{IsEither, JoinsEither}
use Rattle.lattice_compose.specs.Pictures.{control_or, control_beside}
use Rattle.lattice_compose.proofs.CellLaws.{control_or-inside, control_or-below, control_beside-left, control_beside-between, control_beside-right, place_right, beside_has}
use Rattle.lattice_compose.proofs.Lines.{shifted}
use Rattle.lattice_compose.proofs.Parts.{IsPart, joined_down, cut_through}

-- ---- the cells
pub IsEither-drawn : (a b : Lattice) (s : Size) (g : Lattice) → s.rows ≡ max a.size.rows b.size.rows → s.cols ≡ a.size.cols + 1 + b.size.cols → IsDrawn (control_beside a b) s g → IsEither a b g
IsEither-drawn a b s g rows cols h = record {
  rows = high ∙ rows;
  cols = wide ∙ cols;
  left = λ p within. h.same p (omega (arith, within.0), omega (arith, within.1)) ∙ control_beside-left a b p within.1 ∙ control_or-inside a One p within;
  left_filled = λ p past row col. h.same p (omega (arith, high), omega (arith, wide)) ∙ control_beside-left a b p col ∙ control_or-below a One p past;
  between = λ p row col. h.same p (omega (arith, high), omega (arith, wide)) ∙ control_beside-between a b p col;
  right = λ p within.
      let q : Place = record { row = p.row; col = a.size.cols + 1 + p.col } in
      let back : place_right a q ≡ p = place_eq (place_right a q) p refl (omega arith) in
      h.same q (omega (arith, within.0), omega (arith, within.1)) ∙ control_beside-right a b q (omega arith)
      ∙ ap (control_or b One) back ∙ control_or-inside b One p within;
  right_filled = λ p past row past' col.
      h.same p (omega (arith, high), omega (arith, wide)) ∙ control_beside-right a b p past' ∙ control_or-below b One (place_right a p) past;
} where
  high : g.size.rows ≡ s.rows
  high = ap (λ z. z.rows) h.size_is

  wide : g.size.cols ≡ s.cols
  wide = ap (λ z. z.cols) h.size_is

-- ---- literals
beside_All : (P : Control → Type 0) → P Zero → P One → (a b : Lattice) (s : Size) (g : Lattice) → IsDrawn (control_beside a b) s g → All P a.cells → All P b.cells → All P g.cells
beside_All P zero one a b s g h all all' = drawn_All P (control_beside a b) s g h (λ p _. beside_has P zero one a b p all all')

pub either_over : (a b : Lattice) (s : Size) (g : Lattice) → IsDrawn (control_beside a b) s g → (n : ℕ) → IsOver n a → IsOver n b → IsOver n g
either_over a b s g h n over over' = beside_All (NamesBelow n) tt tt a b s g h over over'

pub either_rails : (a b : Lattice) (s : Size) (g : Lattice) → IsDrawn (control_beside a b) s g → (n rails : ℕ) → IsOverRails n rails a → IsOverRails n rails b → IsOverRails n rails g
either_rails a b s g h n rails over over' = beside_All (MayStand n rails) (tt, refl) (tt, refl) a b s g h over over'

-- ---- paths
module _ (a b g : Lattice) (size_a : IsSize a.size) (size_b : IsSize b.size) (h : IsEither a b g) (x : ℕ) where
  value : {c d : Control} → c ≡ d → value_of c x ≡ value_of d x
  value e = ap (λ z. value_of z x) e

  part_left : IsPart a.size g.size (is_on_at a x) (is_on_at g x) 0 0
  part_left = record {
    rows = omega (arith, h.rows);
    cols = omega (arith, h.cols);
    same = λ p within. ap (is_on_at g x) (place_eq (shifted 0 0 p) p (omega arith) (omega arith)) ∙ value (h.left p within);
  }

  part_right : IsPart b.size g.size (is_on_at b x) (is_on_at g x) 0 (a.size.cols + 1)
  part_right = record {
    rows = omega (arith, h.rows);
    cols = omega (arith, h.cols);
    same = λ p within.
        ap (is_on_at g x) (place_eq (shifted 0 (a.size.cols + 1) p) (record { row = p.row; col = a.size.cols + 1 + p.col }) (omega arith) (omega arith))
        ∙ value (h.right p within);
  }

  from_left : Joined a x → Joined g x
  from_left j = joined_down a.size g.size (is_on_at a x) (is_on_at g x) 0 part_left (λ p past row low col. value (h.left_filled p past row (omega arith))) j

  from_right : Joined b x → Joined g x
  from_right j = joined_down b.size g.size (is_on_at b x) (is_on_at g x) (a.size.cols + 1) part_right
      (λ p past row low col. value (h.right_filled p past row (omega arith) (omega (arith, h.cols)))) j

  cut : Cut a x → Cut b x → Cut g x
  cut ca cb = cut_through a.size b.size g.size (is_on_at a x) (is_on_at b x) (is_on_at g x) part_left part_right h.cols (λ p row col. value (h.between p row col)) ca cb

  only_either : Joined g x → Joined a x ⊎ Joined b x
  only_either j = elim (at_least_one a.size (is_on_at a x) size_a.some_rows size_a.some_cols) [
    | inl left ↦ inl left
    | inr cut_left ↦ elim (at_least_one b.size (is_on_at b x) size_b.some_rows size_b.some_cols) [
      | inl right ↦ inr right
      | inr cut_right ↦ absurd (never_both g.size (is_on_at g x) j (cut cut_left cut_right))
    ]
  ]

  from_either : Joined a x ⊎ Joined b x → Joined g x
  from_either e = elim e [ inl j ↦ from_left j | inr j ↦ from_right j ]

pub joins_either : (a b g : Lattice) → IsSize a.size → IsSize b.size → IsEither a b g → JoinsEither a b g
joins_either a b g size_a size_b h x = (only_either a b g size_a size_b h x, from_either a b g size_a size_b h x)
