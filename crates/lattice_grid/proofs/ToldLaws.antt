-- Lattices with a column for each on assignment and a row for each off assignment: their cells, and what they realise.
use Rattle.std.proofs.Common.{◌≡◌, ℕ, suc, zero, ◌+◌, ◌*◌, ◌≤◌, ◌<◌, true, false, List, [], ◌∷◌, length, get_or, map, refl, sym, ap, ◌∙◌, arith, length-append}
use Rattle.std.specs.Prelude.{All}
use Rattle.std.specs.FinSet as set
use Rattle.std.proofs.lemmas.Bool.{true≢false}
use Rattle.std.proofs.lemmas.List.{length-map, get_or_append_left, get_or-append-add}
use Rattle.std.proofs.lemmas.List.Elements.{All-nil, All-append, All-map, All-head, All-tail}
use Rattle.cube_core.specs.Function.{Function}
use Rattle.lattice_grid.specs.declared.control.Control.{Control}
use Rattle.lattice_grid.specs.declared.control.Control.TheVariants.{Zero}
use Rattle.lattice_grid.specs.Control.{value_of}
use Rattle.lattice_grid.specs.Lattice.{is_on_at}
use Rattle.lattice_grid.specs.Realise.{Joined, Realises}
use Rattle.lattice_grid.specs.Told.{told_cells, told_lattice}
use Rattle.lattice_grid.proofs.PathLaws.{joined_by_column, not_joined_past_row}
use Rattle.lattice_grid.proofs.RisingLaws.{HasPlace}

module _ (literal : ℕ → ℕ → Control) where
  -- what is true of each control is true of all cells
  pub All-told_cells : (P : Control → Type 0) (ons offs : List ℕ) → All (λ off. All (λ on. P (literal on off)) ons) offs → All P (told_cells literal ons offs)
  All-told_cells P ons [] each = All-nil P
  All-told_cells P ons (off ∷ offs) each =
      All-append P (map (λ on. literal on off) ons) (told_cells literal ons offs)
      (All-map P (λ on. literal on off) ons (All-head (λ off. All (λ on. P (literal on off)) ons) off offs each))
      (All-told_cells P ons offs (All-tail (λ off. All (λ on. P (literal on off)) ons) off offs each))

  pub length-told_cells : (ons offs : List ℕ) → length (told_cells literal ons offs) ≡ length offs * length ons
  length-told_cells ons [] = omega arith
  length-told_cells ons (off ∷ offs) =
      let more = length-told_cells ons offs in
      omega (arith, length-append (map (λ on. literal on off) ons) (told_cells literal ons offs), length-map ons (λ on. literal on off), more)

  -- the cell of a row and a column
  cell_at : (ons offs : List ℕ) (row col d e : ℕ) (z : Control) → row < length offs → col < length ons → get_or (told_cells literal ons offs) (row * length ons + col) z ≡ literal (get_or ons col d) (get_or offs row e)
  cell_at ons [] row col d e z r c = absurd (omega arith)
  cell_at ons (off ∷ offs) zero col d e z r c =
      let place : 0 * length ons + col ≡ col = omega arith in
      ap (λ n. get_or (told_cells literal ons (off ∷ offs)) n z) place
      ∙ get_or_append_left (map (λ on. literal on off) ons) (told_cells literal ons offs) z col (rw length-map c) ∙ first ons col c where
        first : (xs : List ℕ) (i : ℕ) → i < length xs → get_or (map (λ on. literal on off) xs) i z ≡ literal (get_or xs i d) off
        first [] i w = absurd (omega arith)
        first (x ∷ xs) zero w = refl
        first (x ∷ xs) (suc i) w = first xs i (omega arith)
  cell_at ons (off ∷ offs) (suc row) col d e z r c =
      let place : suc row * length ons + col ≡ length ons + (row * length ons + col) = omega arith in
      ap (λ n. get_or (told_cells literal ons (off ∷ offs)) n z) (place ∙ ap (λ n. n + (row * length ons + col)) (sym (length-map ons (λ on. literal on off))))
      ∙ get_or-append-add (map (λ on. literal on off) ons) (told_cells literal ons offs) (row * length ons + col) z
      ∙ cell_at ons offs row col d e z (omega arith) c

  -- each control is 1 at its on assignment and 0 at its off assignment
  pub record TellsAll (ons offs : List ℕ) : Type 0 where
    pub on : (k j : ℕ) → k < length ons → j < length offs → value_of (literal (get_or ons k 0) (get_or offs j 0)) (get_or ons k 0) ≡ true
    pub off : (k j : ℕ) → k < length ons → j < length offs → value_of (literal (get_or ons k 0) (get_or offs j 0)) (get_or offs j 0) ≡ false

  -- the column of an on assignment is on there
  told-on : (ons offs : List ℕ) (x : ℕ) → TellsAll ons offs → 1 ≤ length offs → HasPlace ons x → Joined (told_lattice literal ons offs) x
  told-on ons offs x h some at = joined_by_column (record { rows = length offs; cols = length ons }) (is_on_at (told_lattice literal ons offs) x) at.place some at.within
      (λ row below.
      ap (value_of (get_or (told_cells literal ons offs) (row * length ons + at.place) Zero)) (sym (at.here 0))
      ∙ ap (λ c. value_of c (get_or ons at.place 0)) (cell_at ons offs row at.place 0 0 Zero below at.within)
      ∙ h.on at.place row at.within below)

  -- the row of an off assignment is off there
  told-off : (ons offs : List ℕ) (y : ℕ) → TellsAll ons offs → HasPlace offs y → Joined (told_lattice literal ons offs) y → ⊥
  told-off ons offs y h at = not_joined_past_row (record { rows = length offs; cols = length ons }) (is_on_at (told_lattice literal ons offs) y) at.place at.within
      (λ p same below one.
      let cell = ap (λ r. value_of (get_or (told_cells literal ons offs) (r * length ons + p.col) Zero) y) same
      ∙ ap (value_of (get_or (told_cells literal ons offs) (at.place * length ons + p.col) Zero)) (sym (at.here 0))
      ∙ ap (λ c. value_of c (get_or offs at.place 0)) (cell_at ons offs at.place p.col 0 0 Zero at.within below)
      ∙ h.off p.col at.place below at.within in
      true≢false (sym one ∙ cell))

  pub told-Realises : (f : Function) (ons offs : List ℕ) → TellsAll ons offs → 1 ≤ length offs → ((x : ℕ) → set.contains f.on x ≡ true → HasPlace ons x) → ((y : ℕ) → set.contains f.off y ≡ true → HasPlace offs y) → Realises (told_lattice literal ons offs) f
  told-Realises f ons offs h some on off = record {
    on = λ x here. told-on ons offs x h some (on x here);
    off = λ y here. told-off ons offs y h (off y here);
  }
