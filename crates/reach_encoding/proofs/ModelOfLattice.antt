-- The truth values that come from a lattice satisfy the encoding.
use Rattle.std.proofs.Common.{◌≡◌, ℕ, ◌+◌, ◌-◌, ◌*◌, ◌^◌, ◌<◌, ◌≤◌, inl, inr, Bool, true, false, not, cond, List, [], ◌++◌, length, get_or, map, refl, sym, ap, ◌∙◌, subst, arith, length-append}
use Rattle.std.specs.List.{flat_map}
use Rattle.std.specs.FinSet as set
use Rattle.std.specs.declared.option.Option.{Option}
use Rattle.std.proofs.lemmas.Bool.{true≢false, or_cases}
use Rattle.std.proofs.lemmas.List.{get_or_default, get_or-map, length-map}
use Rattle.std.proofs.lemmas.Nat.{mul-add-lt, div-add-mod'}
use Rattle.std.proofs.lemmas.List.FromFn.{length-range_with_len, length-map-range_with_len, get_or-range_with_len, get_or-map-range_with_len}
use Rattle.clause_core.specs.Formula.{IsSatisfiedBy, value_in}
use Rattle.cube_core.specs.Function.{Function, IsFunction}
use Rattle.lattice_grid.specs.declared.shape.Place.{Place}
use Rattle.lattice_grid.specs.Defects.{Defects}
use Rattle.lattice_grid.specs.declared.control.Control.TheVariants.{Zero}
use Rattle.lattice_grid.specs.Lattice.{Lattice, control_at}
use Rattle.lattice_grid.specs.Rails.{IsOverRails}
use Rattle.lattice_grid.proofs.Tools.{length-controls_of, length-rising_few}
use Rattle.lattice_grid.specs.Path.{IsWithin, AreFourNeighbours, AreEightNeighbours, JoinedBy, CutBy}
use Rattle.lattice_grid.specs.Rectangle.{Size, IsSize}
use Rattle.path_meaning.specs.Closed.{IsOn, StopsBelow, StopsBeside}
use Rattle.path_meaning.specs.Defective.{RealisesIn, is_on_in}
use Rattle.path_meaning.proofs.Tools.{never_both, Walk, stop, next, walk_from, path_from}
use Rattle.reach_encoding.specs.declared.flood.Side.{Side}
use Rattle.reach_encoding.specs.declared.flood.Side.TheVariants.{Down, Across}
use Rattle.reach_encoding.specs.Encoding.{Question, controls, asked, asked_at, cells_of, many_controls, many_asked, choice, value, mark, below, place_of, number_of, encoding}
use Rattle.reach_encoding.specs.EncodeParts.{vars_of}
use Rattle.reach_encoding.specs.Model.{IsModel}
use Rattle.reach_encoding.specs.ModelOf.{answered, is_free, entry_of, IsFlooded, is_control, choice_row, free_cells_of, side_at, IsRowOfMarks, HasMarks}
use Rattle.reach_encoding.proofs.ModelLaws.{Tells, satisfied, chosen}
use Rattle.reach_encoding.proofs.ModelNumbers.{place_of-number, number_of-below}
use Rattle.reach_encoding.proofs.ModelSets.{Shows, asked_is}
use Rattle.reach_encoding.proofs.ModelOfTables.{AreRows, rows_length, rows_entry, in_first, in_second, in_third, few_values}

-- the number of the place of a number
number_of-place : (s : Size) (p : ℕ) → number_of s (place_of s p) ≡ p
number_of-place s p = div-add-mod' p s.cols

walk_same : (Good Good' : Place → Type 0) (Near : Place → Place → Type 0) → ((p : Place) → Good p → Good' p) → {a b : Place} → Walk Good Near a b → Walk Good' Near a b
walk_same Good Good' Near each (stop {p = p} g) = stop (each p g)
walk_same Good Good' Near each (next {p = p} g n w) = next (each p g) n (walk_same Good Good' Near each w)

-- what a flood of the free cells shows
module _ (s : Size) (on : Place → Bool) where
  abbrev free_of : Side → List Bool
  free_of side = map (λ p. is_free side (on (place_of s p))) (below (s.rows * s.cols))

  free_entry : (side : Side) (p : Place) → IsWithin s p → entry_of s (free_of side) p ≡ is_free side (on p)
  free_entry side p within =
      let i : ℕ = number_of s p in
      let e : 0 + i ≡ i = omega arith in
      get_or-map-range_with_len (λ p. is_free side (on (place_of s p))) 0 (s.rows * s.cols) i i false (number_of-below s p within) e
      ∙ ap (λ r. is_free side (on r)) (place_of-number s p within)

  joined_below : (marks : List Bool) → IsFlooded s (free_of Down) Down marks → (p : Place) → IsWithin s p → entry_of s marks p ≡ true → p.row + 1 ≡ s.rows → JoinedBy s on
  joined_below marks flooded p within marked low =
      let h = flooded.reached p within marked in
      let w = walk_from s (entry_of s (free_of Down)) AreFourNeighbours (λ r. r.row ≡ 0) (λ r. r ≡ p) h.0 h.1 in
      path_from s on AreFourNeighbours (λ r. r.row ≡ 0) (λ r. r.row + 1 ≡ s.rows)
      (walk_same (IsOn s (entry_of s (free_of Down))) (IsOn s on) AreFourNeighbours (λ q k. (k.0, sym (free_entry Down q k.0) ∙ k.1)) w.4) w.2 (ap (λ r. r.row + 1) w.3 ∙ low)

  cut_beside : (marks : List Bool) → IsFlooded s (free_of Across) Across marks → (p : Place) → IsWithin s p → entry_of s marks p ≡ true → p.col + 1 ≡ s.cols → CutBy s on
  cut_beside marks flooded p within marked far =
      let h = flooded.reached p within marked in
      let w = walk_from s (entry_of s (free_of Across)) AreEightNeighbours (λ r. r.col ≡ 0) (λ r. r ≡ p) h.0 h.1 in
      path_from s (λ q. not (on q)) AreEightNeighbours (λ r. r.col ≡ 0) (λ r. r.col + 1 ≡ s.cols)
      (walk_same (IsOn s (entry_of s (free_of Across))) (IsOn s (λ q. not (on q))) AreEightNeighbours (λ q k. (k.0, sym (free_entry Across q k.0) ∙ k.1)) w.4) w.2
      (ap (λ r. r.col + 1) w.3 ∙ far)

  pub stops_below : (marks : List Bool) → IsFlooded s (free_of Down) Down marks → (JoinedBy s on → ⊥) → StopsBelow s on (entry_of s marks)
  stops_below marks flooded none = record {
    start = λ p h at. flooded.start p h.0 (free_entry Down p h.0 ∙ h.1) at;
    step = λ p q within marked near h. flooded.step p q within marked near h.0 (free_entry Down q h.0 ∙ h.1);
    stops = λ p within marked low. none (joined_below marks flooded p within marked low);
  }

  pub stops_beside : (marks : List Bool) → IsFlooded s (free_of Across) Across marks → (CutBy s on → ⊥) → StopsBeside s on (entry_of s marks)
  stops_beside marks flooded none = record {
    start = λ p h at. flooded.start p h.0 (free_entry Across p h.0 ∙ h.1) at;
    step = λ p q within marked near h. flooded.step p q within marked near h.0 (free_entry Across q h.0 ∙ h.1);
    stops = λ p within marked far. none (cut_beside marks flooded p within marked far);
  }

module _ (f : Function) (rails : ℕ) (g : Lattice) (array : Option Defects) (size : IsSize g.size) (over : IsOverRails f.inputs rails g) (realises : RealisesIn g f array) where
  abbrev q : Question
  q = answered f rails g array

  abbrev s : Size
  s = g.size

  -- the marks of an assignment that is asked for
  marks_show : (t : ℕ) (marks : List Bool) → t < many_asked q → IsRowOfMarks f.on g array (asked_at q t) marks → Shows q (is_on_in g array (asked_at q t)) (asked_at q t) (entry_of s marks)
  marks_show t marks in_asked row = record {
    on = λ is_on.
        let side : side_at f.on x ≡ Across = ap (λ b. cond b Across Down) is_on in
        stops_beside s on marks (subst (λ side. IsFlooded s (free_cells_of g array side x) side marks) side row) (never_both s on (realises.on x is_on));
    off = λ is_off.
        let side : side_at f.on x ≡ Down = ap (λ b. cond b Across Down) is_off in
        stops_below s on marks (subst (λ side. IsFlooded s (free_cells_of g array side x) side marks) side row) (realises.off x (elim (or_cases (set.contains f.on x) (set.contains f.off x) (asked_is q t in_asked)) [
          | inl is_on ↦ absurd (true≢false (sym is_on ∙ is_off))
          | inr other ↦ other
        ]));
  } where
    x : ℕ
    x = asked_at q t

    on : Place → Bool
    on = is_on_in g array x

  -- the values that were written
  module _ (found : List ℕ) (chosen_first valued values : List Bool) (found_is : found ≡ asked q) (choices_are : chosen_first ≡ flat_map (choice_row g (controls q)) (below (cells_of q)))
      (values_are : valued ≡ chosen_first ++ flat_map (free_cells_of g array Down) found) (marks_are : HasMarks f.on g array found valued values) where
    abbrev A : List Bool
    A = flat_map (choice_row g (controls q)) (below (cells_of q))

    abbrev B : List Bool
    B = flat_map (free_cells_of g array Down) (asked q)

    abbrev C : List Bool
    C = flat_map (λ row. row) marks_are.rows

    whole : values ≡ (A ++ B) ++ C
    whole = marks_are.added ∙ ap (λ xs. xs ++ C) (values_are ∙ ap (λ xs. xs ++ flat_map (free_cells_of g array Down) found) choices_are ∙ ap (λ xs. A ++ flat_map (free_cells_of g array Down) xs) found_is)

    -- the marks of each assignment
    abbrev row_at : ℕ → List Bool
    row_at t = get_or marks_are.rows t []

    many : length marks_are.rows ≡ many_asked q
    many = marks_are.many ∙ ap length found_is

    row_is : (t : ℕ) → t < many_asked q → IsRowOfMarks f.on g array (asked_at q t) (row_at t)
    row_is t in_asked = subst (λ xs. IsRowOfMarks f.on g array (get_or xs t 0) (row_at t)) found_is (marks_are.each t (subst (λ xs. t < length xs) (sym found_is) in_asked))

    -- each row is as long as it should be
    A_rows : AreRows (choice_row g (controls q)) (many_controls q) (below (cells_of q))
    A_rows k d _ = length-map (controls q) (λ c. is_control c (control_at g (place_of s (get_or (below (cells_of q)) k d))))

    B_rows : AreRows (free_cells_of g array Down) (cells_of q) (asked q)
    B_rows k d _ = length-map-range_with_len (λ p. is_on_in g array (get_or (asked q) k d) (place_of s p)) 0 (cells_of q)

    C_rows : AreRows (λ row. row) (cells_of q) marks_are.rows
    C_rows k d within =
        let inside : k < many_asked q = subst (λ n. k < n) many within in
        ap length (get_or_default marks_are.rows k d [] within) ∙ (row_is k inside).cells

    A_long : length A ≡ cells_of q * many_controls q
    A_long = rows_length (choice_row g (controls q)) (many_controls q) (below (cells_of q)) A_rows ∙ ap (λ n. n * many_controls q) (length-range_with_len 0 (cells_of q))

    B_long : length B ≡ many_asked q * cells_of q
    B_long = rows_length (free_cells_of g array Down) (cells_of q) (asked q) B_rows

    C_long : length C ≡ many_asked q * cells_of q
    C_long = rows_length (λ row. row) (cells_of q) marks_are.rows C_rows ∙ ap (λ n. n * cells_of q) many

    pub long : length values ≡ cells_of q * many_controls q + many_asked q * cells_of q + many_asked q * cells_of q
    long =
        let a = A_long in
        let b = B_long in
        let c = C_long in
        let ab = length-append A B in
        let abc = length-append (A ++ B) C in
        let e : length values ≡ length ((A ++ B) ++ C) = ap length whole in
        omega arith

    pub few : IsFunction f → cells_of q ≤ 32768 → length values < 2 ^ 31
    few function few_cells =
        let few_inputs = function.few in
        let most = length-controls_of f.inputs rails in
        few_values (cells_of q) (many_controls q) (many_asked q) (length values) few_cells (omega arith) (length-rising_few f (set.union f.on f.off) function) long

    -- the marked cells of each assignment
    abbrev sets : ℕ → Place → Bool
    sets t = entry_of s (row_at t)

    tells : Tells q g sets (value_in values)
    tells = record {
      choice = λ p c in_cells in_controls.
          let inside = mul-add-lt p (many_controls q) c (cells_of q) in_cells in_controls in
          let a = A_long in
          let long_below = length-range_with_len 0 (cells_of q) in
          let e : 0 + p ≡ p = omega arith in
          in_first A B C values whole (choice q p c - 1) (omega arith)
          ∙ rows_entry (choice_row g (controls q)) (many_controls q) (below (cells_of q)) A_rows 0 p c (choice q p c - 1) (omega arith) (omega arith) in_controls
          ∙ ap (λ n. get_or (choice_row g (controls q) n) c false) (get_or-range_with_len 0 (cells_of q) p 0 in_cells ∙ e)
          ∙ get_or-map (λ c. is_control c (control_at g (place_of s p))) (controls q) c Zero false in_controls;
      value = λ p t in_cells in_asked.
          let inside = mul-add-lt t (cells_of q) p (many_asked q) in_asked in_cells in
          let a = A_long in
          let b = B_long in
          let e : 0 + p ≡ p = omega arith in
          in_second A B C values whole (value q p t - 1) (t * cells_of q + p) (omega arith) (omega arith)
          ∙ rows_entry (free_cells_of g array Down) (cells_of q) (asked q) B_rows 0 t p (t * cells_of q + p) refl in_asked in_cells
          ∙ get_or-map-range_with_len (λ p. is_on_in g array (asked_at q t) (place_of s p)) 0 (cells_of q) p p false in_cells e;
      mark = λ p t in_cells in_asked.
          let a = A_long in
          let b = B_long in
          in_third A B C values whole (mark q p t - 1) (t * cells_of q + p) (omega arith)
          ∙ rows_entry (λ row. row) (cells_of q) marks_are.rows C_rows [] t p (t * cells_of q + p) refl (subst (λ n. t < n) (sym many) in_asked) in_cells
          ∙ ap (λ n. get_or (row_at t) n false) (sym (number_of-place s p));
    }

    pub is_model : IsModel q g (value_in values)
    is_model = record { satisfies = satisfied q g sets (value_in values) tells size over (λ t in_asked. marks_show t (row_at t) in_asked (row_is t in_asked)); chooses = chosen q g sets (value_in values) tells }

    pub is_satisfied : IsSatisfiedBy values (encoding q)
    unfolding encoding
    is_satisfied = let e = long in record { wide = omega arith; satisfies = is_model.satisfies }

    pub whole_length : length values ≡ vars_of q
    whole_length = let e = long in omega arith
