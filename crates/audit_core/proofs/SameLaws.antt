-- Arrays are the same where their sizes and their defects are.
use Rattle.std.proofs.Common.{◌≡◌, ℕ, ◌+◌, ◌*◌, ◌/◌, ◌%◌, ◌<◌, ◌≤◌, List, [], ◌∷◌, ◌++◌, take, length, sym, ap, ◌∙◌, arith, inl, inr}
use Rattle.std.specs.Prelude.{slice_index_or}
use Rattle.std.proofs.lemmas.Bool.{cases_order}
use Rattle.std.proofs.lemmas.List.{same_lists, get_or_default, take_more}
use Rattle.lattice_grid.specs.declared.array.Defect.{Defect}
use Rattle.lattice_grid.specs.declared.array.Defect.TheVariants.{Sound}
use Rattle.lattice_grid.specs.declared.shape.Place.{Place}
use Rattle.lattice_grid.specs.Defects.{Defects, IsArray, defect_at}
use Rattle.lattice_grid.specs.Rectangle.{Size}

pub array_is : (a b : Defects) → a.size ≡ b.size → a.cells ≡ b.cells → a ≡ b
array_is a b size cells = λ i. record { size = size i; cells = cells i }

-- the defect of a cell that is counted row by row
pub defect_of : (a : Defects) (cell rows cols : ℕ) (place : Place) → 1 ≤ cols → a.size.cols ≡ cols → place.row ≡ cell / cols → place.col ≡ cell % cols → defect_at a place ≡ slice_index_or a.cells cell Sound
defect_of a cell rows cols place some same row col =
    ap (λ n. slice_index_or a.cells n Sound) ((λ i. row i * same i + col i) ∙ (let whole : cell / cols * cols + cell % cols ≡ cell = omega arith in whole))

pub same_array : (a b : Defects) (s t : Size) (n m : ℕ) → s ≡ a.size → t ≡ b.size → s ≡ t → IsArray a → IsArray b → n ≡ s.rows * s.cols → n ≤ m
    → ((k : ℕ) → k < m → slice_index_or a.cells k Sound ≡ slice_index_or b.cells k Sound) → a ≡ b
same_array a b s t n m s_is t_is same p q n_is within each =
    let size : a.size ≡ b.size = sym s_is ∙ same ∙ t_is in
    let first : length a.cells ≡ n = p.whole ∙ ap (λ (z : Size). z.rows * z.cols) (sym s_is) ∙ sym n_is in
    let second : length b.cells ≡ length a.cells = q.whole ∙ ap (λ (z : Size). z.rows * z.cols) (sym size) ∙ sym p.whole in
    array_is a b size (same_lists a.cells b.cells (sym second) (λ k d w.
    get_or_default a.cells k d Sound w ∙ each k (omega (arith, w, first, within)) ∙ get_or_default b.cells k Sound d (omega (arith, w, second))))

-- one more cell
pub cell_more : (a b : Defects) (s t : Size) (cell : ℕ) (place : Place) (x y : Defect) → s ≡ a.size → t ≡ b.size → s ≡ t → IsArray a → (place ≡ record { row = cell / s.cols; col = cell % s.cols }) → x ≡ defect_at a place → y ≡ defect_at b place → x ≡ y
    → ((k : ℕ) → k < cell → slice_index_or a.cells k Sound ≡ slice_index_or b.cells k Sound) → (k : ℕ) → k < cell + 1 → slice_index_or a.cells k Sound ≡ slice_index_or b.cells k Sound
cell_more a b s t cell place x y s_is t_is same p place_is x_is y_is e each k w = elim (cases_order k cell) [
  | inl here ↦
      let some : 1 ≤ s.cols = (let c = p.some_cols in let f = ap (λ (z : Size). z.cols) s_is in omega (arith, c, f)) in
      let first : defect_at a place ≡ slice_index_or a.cells cell Sound = defect_of a cell s.rows s.cols place some (ap (λ (z : Size). z.cols) (sym s_is)) (ap (λ (z : Place). z.row) place_is) (ap (λ (z : Place). z.col) place_is) in
      let second : defect_at b place ≡ slice_index_or b.cells cell Sound = defect_of b cell s.rows s.cols place some (ap (λ (z : Size). z.cols) (sym (same ∙ t_is))) (ap (λ (z : Place). z.row) place_is) (ap (λ (z : Place). z.col) place_is) in
      ap (λ n. slice_index_or a.cells n Sound) here ∙ sym first ∙ sym x_is ∙ e ∙ y_is ∙ second ∙ ap (λ n. slice_index_or b.cells n Sound) (sym here)
  | inr other ↦ elim other [ inl less ↦ each k less | inr more ↦ absurd (omega (arith, w, more)) ]
]

-- one more cell of a copy
pub copied_more : (a : Defects) (cells more : List Defect) (s : Size) (cell end : ℕ) (place : Place) (d : Defect) → s ≡ a.size → IsArray a → end ≡ s.rows * s.cols → cell < end → place ≡ record { row = cell / s.cols; col = cell % s.cols }
    → d ≡ defect_at a place → cells ≡ take cell a.cells → more ≡ cells ++ d ∷ [] → more ≡ take (cell + 1) a.cells
copied_more a cells more s cell end place d s_is p end_is within place_is d_is earlier e =
    let some : 1 ≤ s.cols = (let c = p.some_cols in let f = ap (λ (z : Size). z.cols) s_is in omega (arith, c, f)) in
    let whole : length a.cells ≡ end = p.whole ∙ ap (λ (z : Size). z.rows * z.cols) (sym s_is) ∙ sym end_is in
    let here : defect_at a place ≡ slice_index_or a.cells cell Sound = defect_of a cell s.rows s.cols place some (ap (λ (z : Size). z.cols) (sym s_is)) (ap (λ (z : Place). z.row) place_is) (ap (λ (z : Place). z.col) place_is) in
    e ∙ ap (λ l. l ++ d ∷ []) earlier ∙ ap (λ x. take cell a.cells ++ x ∷ []) (d_is ∙ here) ∙ sym (take_more a.cells cell Sound (omega (arith, within, whole)))
