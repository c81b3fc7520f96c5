-- Cells in rows.
use Rattle.std.proofs.Common.{◌≡◌, ℕ, suc, zero, ◌+◌, ◌*◌, ◌≤◌, List, [], ◌∷◌, ◌++◌, length, take, drop, refl, sym, ap, ◌∙◌, arith, length-append, length-drop}
use Rattle.std.specs.Prelude.{All}
use Rattle.std.specs.List.{flat_map}
use Rattle.std.proofs.lemmas.List.{take-append-drop, length-take-le, take_at, drop_at}
use Rattle.std.proofs.lemmas.List.Elements.{All-nil, All-cons, All-take, All-drop, All-head, All-tail, All-append}
use Rattle.report_text.specs.Cells.{rows_of}

abbrev pub cells_of : {X : Type 0} → List (List X) → List X
cells_of rows = flat_map (λ row. row) rows

-- so many rows of so many cells, each of which is such
pub record AreRows {X : Type 0} (P : X → Type 0) (cols many : ℕ) (rows : List (List X)) : Type 0 where
  pub many_are : length rows ≡ many
  pub wide : All (λ row. length row ≡ cols) rows
  pub each : All (All P) rows

pub length-rows_of : {X : Type 0} (cols many : ℕ) (cells : List X) → length (rows_of cols many cells) ≡ many
length-rows_of cols zero cells = refl
length-rows_of cols (suc many) cells = ap suc (length-rows_of cols many (drop cols cells))

pub rows_of-are : {X : Type 0} (P : X → Type 0) (cols many : ℕ) (cells : List X) → length cells ≡ many * cols → All P cells → AreRows P cols many (rows_of cols many cells)
rows_of-are P cols zero cells e h = record { many_are = refl; wide = All-nil _; each = All-nil (All P) }
rows_of-are P cols (suc many) cells e h =
    let left : length (drop cols cells) ≡ many * cols = omega (arith, e, length-drop cols cells) in
    let more = rows_of-are P cols many (drop cols cells) left (All-drop P cols cells h) in
    let room : cols ≤ length cells = omega (arith, e) in
    record {
      many_are = ap suc more.many_are;
      wide = All-cons (λ row. length row ≡ cols) (take cols cells) (rows_of cols many (drop cols cells)) (length-take-le cols cells room) more.wide;
      each = All-cons (All P) (take cols cells) (rows_of cols many (drop cols cells)) (All-take P cols cells h) more.each;
    }

none_left : {X : Type 0} (cells : List X) → length cells ≡ 0 → [] ≡ cells
none_left [] e = refl
none_left (c ∷ cells) e = absurd (omega (arith, e))

pub cells-rows_of : {X : Type 0} (cols many : ℕ) (cells : List X) → length cells ≡ many * cols → cells_of (rows_of cols many cells) ≡ cells
cells-rows_of cols zero cells e = none_left cells (omega (arith, e))
cells-rows_of cols (suc many) cells e =
    let left : length (drop cols cells) ≡ many * cols = omega (arith, e, length-drop cols cells) in
    ap (λ w. take cols cells ++ w) (cells-rows_of cols many (drop cols cells) left) ∙ take-append-drop cols cells

pub rows_of-cells : {X : Type 0} (cols : ℕ) (rows : List (List X)) → All (λ row. length row ≡ cols) rows → rows_of cols (length rows) (cells_of rows) ≡ rows
rows_of-cells cols [] h = refl
rows_of-cells cols (row ∷ rows) h =
    let wide = All-head (λ r. length r ≡ cols) row rows h in
    let first = take_at row (cells_of rows) cols wide in
    let later = ap (rows_of cols (length rows)) (drop_at row (cells_of rows) cols wide) ∙ rows_of-cells cols rows (All-tail (λ r. length r ≡ cols) row rows h) in
    λ i. first i ∷ later i

pub length-cells : {X : Type 0} (cols : ℕ) (rows : List (List X)) → All (λ row. length row ≡ cols) rows → length (cells_of rows) ≡ length rows * cols
length-cells cols [] h = omega arith
length-cells cols (row ∷ rows) h =
    let one = All-head (λ r. length r ≡ cols) row rows h in
    let more = length-cells cols rows (All-tail (λ r. length r ≡ cols) row rows h) in
    omega (arith, length-append row (cells_of rows), one, more)

pub All-cells : {X : Type 0} (P : X → Type 0) (rows : List (List X)) → All (All P) rows → All P (cells_of rows)
All-cells P [] h = All-nil P
All-cells P (row ∷ rows) h = All-append P row (cells_of rows) (All-head (All P) row rows h) (All-cells P rows (All-tail (All P) row rows h))
