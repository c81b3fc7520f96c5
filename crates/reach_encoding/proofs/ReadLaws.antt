-- What a solution chooses is a lattice that realises the function.
use Rattle.std.proofs.Common.{◌≡◌, ℕ, suc, zero, ◌+◌, ◌≤◌, ◌<◌, inl, inr, Bool, true, false, cond, map, get_or, refl, sym, ap, ◌∙◌, subst, arith}
use Rattle.std.specs.FinSet as set
use Rattle.std.proofs.lemmas.Bool.{cases_order, cond-true, cond-false, both_ways, not-true}
use Rattle.std.proofs.lemmas.List.Elements.{All-map}
use Rattle.std.proofs.lemmas.List.FromFn.{length-map-range_with_len, get_or-map-range_with_len}
use Rattle.cube_core.specs.Rising.{least_from}
use Rattle.clause_core.specs.Literal.{is_true}
use Rattle.lattice_grid.specs.declared.control.Control.TheVariants.{Zero}
use Rattle.lattice_grid.specs.declared.shape.Place.{Place}
use Rattle.lattice_grid.specs.Control.{value_of}
use Rattle.lattice_grid.specs.Lattice.{IsLattice, control_at}
use Rattle.lattice_grid.specs.Rails.{MayStand, IsOverRails}
use Rattle.lattice_grid.proofs.Tools.{control_at_number, MayStand-NamesBelow}
use Rattle.lattice_grid.specs.Path.{IsWithin}
use Rattle.path_meaning.specs.Closed.{StopsBelow, StopsBeside}
use Rattle.path_meaning.specs.Defective.{RealisesIn, IsRealisedIn, JoinedIn, is_on_in, defect_in, with_defect}
use Rattle.path_meaning.proofs.Tools.{either_or, joined_refuted, cut_refuted}
use Rattle.reach_encoding.specs.Encoding.{Question, IsQuestion, below, asked_at, cells_of, many_controls, many_asked, choice, value, mark, yes, control_of, place_of, number_of, top, bottom, left, right, next_four, next_eight, closed_marks, encoding, HasSolution}
use Rattle.reach_encoding.specs.Solved.{IsReadAsLattice, lattice_read, first_chosen}
use Rattle.reach_encoding.proofs.EncodingLaws.{HasParts, parts_from_satisfied, AllTrue, IsClosed, closed_from_true, values_from_true, some_from_true, map-Contains, below-Contains, yes-true, number_below, place-number, Contains-top, Contains-bottom, Contains-left, Contains-right, Contains-next_four, Contains-next_eight, asked_found, not_on_from_off}

-- where one of the numbers passes the test, the first that passes is one of them, and passes
pub record IsFound (test : ℕ → Bool) (i end k : ℕ) : Type 0 where
  pub from : i ≤ k
  pub below : k < end
  pub passes : test k ≡ true

pub least_from-found : (test : ℕ → Bool) (many i k : ℕ) → IsFound test i (i + many) k → IsFound test i (i + many) (least_from test many i)
least_from-found test zero i k h = let from = h.from in let below = h.below in absurd (omega arith)
least_from-found test (suc many) i k h =
    elim (test i) as (λ b. test i ≡ b → IsFound test i (i + suc many) (cond b i (least_from test many (suc i)))) [
      | true ↦ λ e. record { from = omega arith; below = omega arith; passes = e }
      | false ↦ λ e.
          let later = least_from-found test many (suc i) k (record { from = further e; below = omega (arith, h.below); passes = h.passes }) in
          record { from = omega (arith, later.from); below = omega (arith, later.below); passes = later.passes }
    ] refl where
      further : test i ≡ false → suc i ≤ k
      further e = elim (cases_order i k) [
        | inl same ↦ absurd (both_ways (test i) e (ap test same ∙ h.passes))
        | inr other ↦ elim other [ inl less ↦ omega arith | inr more ↦ let from = h.from in absurd (omega arith) ]
      ]

-- the same of all numbers below an end
pub least_from-below : (test : ℕ → Bool) (end k : ℕ) → k < end → test k ≡ true → IsFound test 0 end (least_from test end 0)
least_from-below test end k within passes =
    subst (λ e. IsFound test 0 e (least_from test end 0)) (omega arith) (least_from-found test end 0 k (record { from = omega arith; below = omega arith; passes = passes }))

module _ (q : Question) (v : ℕ → Bool) (ok : IsQuestion q) (parts : HasParts q v) where
  -- some control is chosen at each cell
  pub some_chosen : (p : ℕ) → p < cells_of q → (c : ℕ) × (c < many_controls q) × (v (choice q p c) ≡ true)
  some_chosen p within =
      let some = some_from_true v (map (λ c. yes (choice q p c)) (below (many_controls q))) (parts.choices p within) in
      let which = map-Contains (λ c. yes (choice q p c)) (below (many_controls q)) some.0 some.1 in
      (which.0, below-Contains (many_controls q) which.0 which.1, sym (yes-true v (choice q p which.0)) ∙ (ap (is_true v) which.2 ∙ some.2))

  -- so the first one is
  pub chosen : (p : ℕ) → p < cells_of q → IsFound (λ c. v (choice q p c)) 0 (many_controls q) (first_chosen q v p)
  chosen p within =
      let some = some_chosen p within in
      least_from-below (λ c. v (choice q p c)) (many_controls q) some.0 some.1 some.2

  -- the lattice has this control at a place
  pub control_read : (c : Place) → IsWithin q.size c → control_at (lattice_read q v) c ≡ control_of q (first_chosen q v (number_of q.size c))
  control_read c within = get_or-map-range_with_len (λ p. control_of q (first_chosen q v p)) 0 (cells_of q) (number_of q.size c) (number_of q.size c) Zero (number_below q.size c within) (omega arith)

  pub over_read : IsOverRails q.function.inputs q.rails (lattice_read q v)
  over_read = All-map (MayStand q.function.inputs q.rails) (λ p. control_of q (first_chosen q v p)) (below (cells_of q))
      (λ k d within. control_at_number q.function.inputs q.rails (first_chosen q v (get_or (below (cells_of q)) k d)))

  pub kept_read : IsLattice (lattice_read q v)
  kept_read = record {
    size = ok.size;
    whole = length-map-range_with_len (λ p. control_of q (first_chosen q v p)) 0 (cells_of q);
    inputs = MayStand-NamesBelow q.function.inputs q.rails ok.function.few (lattice_read q v).cells over_read;
  }

  -- the value of a cell is what its control and its defect say
  pub value_read : (c : Place) (t : ℕ) → IsWithin q.size c → t < many_asked q → v (value q (number_of q.size c) t) ≡ is_on_in (lattice_read q v) q.array (asked_at q t) c
  value_read c t within below_t =
      let p = number_of q.size c in
      let inside : p < cells_of q = number_below q.size c within in
      let first = chosen p inside in
      values_from_true q v (defect_in q.array (place_of q.size p)) p (first_chosen q v p) t (parts.values p inside) first.below first.passes below_t
      ∙ ap (λ d. with_defect (defect_in q.array d) (value_of (control_of q (first_chosen q v p)) (asked_at q t))) (place-number q.size c within)
      ∙ ap (λ k. with_defect (defect_in q.array c) (value_of k (asked_at q t))) (sym (control_read c within))

  -- the marked cells
  abbrev marked : ℕ → Place → Bool
  marked t c = v (mark q (number_of q.size c) t)

  abbrev on_at : ℕ → Place → Bool
  on_at t = is_on_in (lattice_read q v) q.array (asked_at q t)

  pub stops_below : (t : ℕ) → t < many_asked q → IsClosed q v t true (top q.size) (next_four q.size) (bottom q.size) → StopsBelow q.size (on_at t) (marked t)
  stops_below t below_t h = record {
    start = λ c on first. h.begins (number_of q.size c) (Contains-top q.size c on.0 first) (value_read c t on.0 below_t ∙ on.1);
    step = λ c d within here near on. h.goes_on (number_of q.size c) (number_of q.size d) (number_below q.size c within) (Contains-next_four q.size c d within on.0 near) here (value_read d t on.0 below_t ∙ on.1);
    stops = λ c within here last. h.stops (number_of q.size c) (Contains-bottom q.size c within last) here;
  }

  pub stops_beside : (t : ℕ) → t < many_asked q → IsClosed q v t false (left q.size) (next_eight q.size) (right q.size) → StopsBeside q.size (on_at t) (marked t)
  stops_beside t below_t h = record {
    start = λ c off first. h.begins (number_of q.size c) (Contains-left q.size c off.0 first) (value_read c t off.0 below_t ∙ not-true (on_at t c) off.1);
    step = λ c d within here near off. h.goes_on (number_of q.size c) (number_of q.size d) (number_below q.size c within) (Contains-next_eight q.size c d within off.0 near) here (value_read d t off.0 below_t ∙ not-true (on_at t d) off.1);
    stops = λ c within here last. h.stops (number_of q.size c) (Contains-right q.size c within last) here;
  }

  -- where the function is 1 a path stands, since no cut does
  joined_at : (t : ℕ) → t < many_asked q → set.contains q.function.on (asked_at q t) ≡ true → JoinedIn (lattice_read q v) q.array (asked_at q t)
  joined_at t below_t on =
      let true_clauses : AllTrue v (closed_marks q t false (left q.size) (next_eight q.size) (right q.size)) =
      subst (AllTrue v) (cond-true (set.contains q.function.on (asked_at q t)) (closed_marks q t false (left q.size) (next_eight q.size) (right q.size)) (closed_marks q t true (top q.size) (next_four q.size) (bottom q.size)) on) (parts.marks t below_t) in
      let closed = closed_from_true q v t false (left q.size) (next_eight q.size) (right q.size) true_clauses in
      (either_or q.size (on_at t) ok.size.some_rows ok.size.some_cols).0.1 ((cut_refuted q.size (on_at t)).1 (marked t, stops_beside t below_t closed))

  -- where it is 0 no path stands
  apart_at : (t : ℕ) → t < many_asked q → set.contains q.function.on (asked_at q t) ≡ false → JoinedIn (lattice_read q v) q.array (asked_at q t) → ⊥
  apart_at t below_t off =
      let true_clauses : AllTrue v (closed_marks q t true (top q.size) (next_four q.size) (bottom q.size)) =
      subst (AllTrue v) (cond-false (set.contains q.function.on (asked_at q t)) (closed_marks q t false (left q.size) (next_eight q.size) (right q.size)) (closed_marks q t true (top q.size) (next_four q.size) (bottom q.size)) off) (parts.marks t below_t) in
      let closed = closed_from_true q v t true (top q.size) (next_four q.size) (bottom q.size) true_clauses in
      (joined_refuted q.size (on_at t)).1 (marked t, stops_below t below_t closed)

  pub realises_read : RealisesIn (lattice_read q v) q.function q.array
  realises_read = record {
    same_size = ok.array;
    on = λ x on.
        let found = asked_found q x ok.function (inl on) in
        subst (JoinedIn (lattice_read q v) q.array) found.2 (joined_at found.0 found.1 (ap (set.contains q.function.on) found.2 ∙ on));
    off = λ x off joined.
        let found = asked_found q x ok.function (inr off) in
        apart_at found.0 found.1 (ap (set.contains q.function.on) found.2 ∙ not_on_from_off q.function x ok.function off) (subst (JoinedIn (lattice_read q v) q.array) (sym found.2) joined);
  }

pub read_as_lattice : IsReadAsLattice
read_as_lattice q v ok sat =
    let parts = parts_from_satisfied q v sat in
    record { chooses = some_chosen q v ok parts; kept = kept_read q v ok parts; over = over_read q v ok parts; realises = realises_read q v ok parts }

-- so where the formula has a solution some lattice answers the question
pub realised_from_solution : (q : Question) → IsQuestion q → HasSolution (encoding q) → IsRealisedIn q.function.inputs q.rails q.function q.size q.array
realised_from_solution q ok solution =
    let read = read_as_lattice q solution.0 ok solution.1 in
    record { lattice = lattice_read q solution.0; kept = read.kept; size_is = refl; over = read.over; realises = read.realises }
