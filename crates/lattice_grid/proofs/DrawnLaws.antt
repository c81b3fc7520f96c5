-- Lattices by the control at each place.
use Rattle.std.proofs.Common.{◌≡◌, ℕ, suc, zero, ◌+◌, ◌*◌, ◌/◌, ◌%◌, ◌<◌, inl, inr, List, length, get_or, refl, sym, ap, ◌∙◌, subst, arith, [], ◌∷◌, ◌++◌, length-append, map}
use Rattle.std.specs.Prelude.{All}
use Rattle.std.proofs.lemmas.Bool.{cases_eq}
use Rattle.std.specs.List.{range_with_len}
use Rattle.std.proofs.lemmas.List.Elements.{All-from_get_or, All-push}
use Rattle.std.proofs.lemmas.List.FromFn.{length-map-range_with_len, get_or-map-range_with_len}
use Rattle.std.proofs.lemmas.List.{get_or_append_left, get_or-append-add}
use Rattle.std.proofs.lemmas.Nat.{mul-add-lt, div-mul-add, mod-mul-add, div-add-mod', div_below}
use Rattle.lattice_grid.specs.declared.control.Control.{Control}
use Rattle.lattice_grid.specs.declared.control.Control.TheVariants.{Zero}
use Rattle.lattice_grid.specs.declared.shape.Place.{Place}
use Rattle.lattice_grid.specs.Control.{NamesBelow}
use Rattle.lattice_grid.specs.Drawn.{IsDrawn}
use Rattle.lattice_grid.specs.Lattice.{Lattice, control_at}
use Rattle.lattice_grid.specs.Path.{IsWithin}
use Rattle.lattice_grid.specs.Rectangle.{Size}
use Rattle.lattice_grid.proofs.NeighbourLaws.{place_eq}

-- the place with an index, in rows of so many cells
abbrev pub place_at : ℕ → ℕ → Place
place_at cols k = record { row = k / cols; col = k % cols }

-- the places with an index are inside
pub place_at_within : (s : Size) (k : ℕ) → k < s.rows * s.cols → IsWithin s (place_at s.cols k)
place_at_within s k h = go s.rows s.cols h where
  go : (rows cols : ℕ) → k < rows * cols → (k / cols < rows) × (k % cols < cols)
  go rows zero h = absurd (omega arith)
  go rows (suc c) h = (div_below k (suc c) rows (omega arith) h, omega arith)

-- and each place inside has one
pub place_at-index : (s : Size) (p : Place) → IsWithin s p → place_at s.cols (p.row * s.cols + p.col) ≡ p
place_at-index s p within = place_eq (place_at s.cols (p.row * s.cols + p.col)) p (div-mul-add p.row s.cols p.col within.1) (mod-mul-add p.row s.cols p.col within.1)

-- the first so many cells have been drawn
pub record IsDrawnTo (control : Place → Control) (cols n : ℕ) (cells : List Control) : Type 0 where
  pub many : length cells ≡ n
  pub inputs : All (NamesBelow 10) cells
  pub same : (k : ℕ) → k < n → get_or cells k Zero ≡ control (place_at cols k)

pub IsDrawnTo-more : (control : Place → Control) (cols n : ℕ) (cells new : List Control) (x : Control) → IsDrawnTo control cols n cells → x ≡ control (place_at cols n) → NamesBelow 10 x → new ≡ cells ++ x ∷ [] → IsDrawnTo control cols (n + 1) new
IsDrawnTo-more control cols n cells new x h is below now = subst (IsDrawnTo control cols (n + 1)) (sym now) (record {
  many = omega (arith, length-append cells (x ∷ []), h.many);
  inputs = All-push (NamesBelow 10) cells x h.inputs below;
  same = λ k within. elim (cases_eq k n) [
    | inl last ↦
        let at : k ≡ length cells + 0 = omega (arith, h.many) in
        ap (λ i. get_or (cells ++ x ∷ []) i Zero) at ∙ get_or-append-add cells (x ∷ []) 0 Zero ∙ is
        ∙ ap (λ i. control (place_at cols i)) (sym last)
    | inr other ↦
        let before : k < n = omega arith in
        get_or_append_left cells (x ∷ []) Zero k (omega (arith, h.many)) ∙ h.same k before
  ];
})

-- all cells
pub IsDrawn-read : (control : Place → Control) (s : Size) (n cols : ℕ) (cells : List Control) (g : Lattice) → n ≡ s.rows * s.cols → cols ≡ s.cols → IsDrawnTo control cols n cells → g ≡ record { size = s; cells = cells } → IsDrawn control s g
IsDrawn-read control s n cols cells g all width h is = subst (IsDrawn control s) (sym is) (record {
  size_is = refl;
  whole = h.many ∙ all;
  same = λ p within.
      let below : p.row * s.cols + p.col < n = omega (arith, all, mul-add-lt p.row s.cols p.col s.rows within.0 within.1) in
      h.same (p.row * s.cols + p.col) below ∙ ap (λ c. control (place_at c (p.row * s.cols + p.col))) width ∙ ap control (place_at-index s p within);
})

-- what is true of each place's control is true of each cell
pub drawn_All : (P : Control → Type 0) (control : Place → Control) (s : Size) (g : Lattice) → IsDrawn control s g → ((p : Place) → IsWithin s p → P (control p)) → All P g.cells
drawn_All P control s g h each = All-from_get_or P g.cells Zero (λ k within.
    let inside : k < s.rows * s.cols = omega (arith, h.whole) in
    let place : Place = place_at s.cols k in
    let there = place_at_within s k inside in
    let here : control_at g place ≡ get_or g.cells k Zero = ap (λ c. get_or g.cells (place.row * c + place.col) Zero) (ap (λ z. z.cols) h.size_is) ∙ ap (λ i. get_or g.cells i Zero) (div-add-mod' k s.cols) in
    subst P (sym (h.same place there) ∙ here) (each place there))

-- the place that the code has for an index
pub place_read : (s : Size) (Covers : Place → Type 0) (k cols : ℕ) → cols ≡ s.cols → k < s.rows * s.cols → ((p : Place) → IsWithin s p → Covers p) → Covers (place_at cols k)
place_read s Covers k cols e below covers = subst (λ c. Covers (place_at c k)) (sym e) (covers (place_at s.cols k) (place_at_within s k below))

-- the lattice that has each control that is given
abbrev pub picture : (Place → Control) → Size → Lattice
picture control s = record { size = s; cells = map (λ k. control (place_at s.cols k)) (range_with_len 0 (s.rows * s.cols)) }

pub picture-IsDrawn : (control : Place → Control) (s : Size) → IsDrawn control s (picture control s)
picture-IsDrawn control s = record {
  size_is = refl;
  whole = length-map-range_with_len (λ k. control (place_at s.cols k)) 0 (s.rows * s.cols);
  same = λ p within.
      let below : p.row * s.cols + p.col < s.rows * s.cols = omega (arith, mul-add-lt p.row s.cols p.col s.rows within.0 within.1) in
      get_or-map-range_with_len (λ k. control (place_at s.cols k)) 0 (s.rows * s.cols) (p.row * s.cols + p.col) (p.row * s.cols + p.col) Zero below (omega arith)
      ∙ ap control (place_at-index s p within);
}
