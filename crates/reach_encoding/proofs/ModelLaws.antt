-- A lattice that answers a question gives a solution of its encoding.
use Rattle.std.proofs.Common.{◌≡◌, ℕ, ◌+◌, ◌-◌, ◌<◌, ◌≤◌, ◌⊎◌, ◌↔◌, Bool, true, false, not, cond, inl, inr, List, [], ◌∷◌, ◌++◌, map, refl, sym, ap, ◌∙◌, arith}
use Rattle.std.specs.List.{All, flat_map}
use Rattle.std.specs.FinSet as set
use Rattle.std.proofs.lemmas.Bool.{cases_Bool, false_from_ne_true}
use Rattle.std.proofs.lemmas.List.Elements.{All-append, All-contains}
use Rattle.clause_core.specs.Formula.{Satisfies}
use Rattle.clause_core.specs.Literal.{Literal}
use Rattle.lattice_grid.specs.declared.array.Defect.{Defect}
use Rattle.lattice_grid.specs.declared.array.Defect.TheVariants.{Sound, StuckOpen, StuckClosed}
use Rattle.lattice_grid.specs.declared.control.Control.{Control}
use Rattle.lattice_grid.specs.declared.shape.Place.{Place}
use Rattle.lattice_grid.specs.Control.{value_of}
use Rattle.lattice_grid.specs.Lattice.{Lattice, control_at}
use Rattle.lattice_grid.specs.Rails.{IsOverRails}
use Rattle.lattice_grid.proofs.Tools.{stands_at}
use Rattle.lattice_grid.specs.Path.{IsWithin, AreFourNeighbours, AreEightNeighbours}
use Rattle.lattice_grid.specs.Rectangle.{IsSize}
use Rattle.path_meaning.specs.Defective.{IsRealisedIn, is_on_in, with_defect, defect_in}
use Rattle.reach_encoding.specs.Encoding.{Question, IsQuestion, asked_at, cells_of, many_controls, many_asked, choice, value, mark, place_of, control_of, yes, no, is_valued, below, choices, values_with, values, closed_marks, marks_at, marks, top, bottom, left, right, next_four, next_eight, encoding, HasSolution}
use Rattle.reach_encoding.specs.Model.{HasModel}
use Rattle.reach_encoding.specs.ModelOf.{is_control}
use Rattle.reach_encoding.proofs.ModelLists.{All-map_of, All-flat_map_below, All-map_below}
use Rattle.reach_encoding.proofs.ModelNumbers.{is_control-true, is_control-same, control_found, place_of-within, value_by, value_by-first, value_by-second, value_by-third}
use Rattle.reach_encoding.proofs.ModelSides.{left_cells, right_cells, top_cells, bottom_cells, four_cells, eight_cells}
use Rattle.reach_encoding.proofs.ModelSets.{IsClosed, IsClosed-below, IsClosed-beside, Shows, all_shown}
use Rattle.reach_encoding.proofs.ModelClauses.{IsMet, one_true, later_true, yes-true, no-true, asks-true, some_true}

-- the values say which control stands at each cell, which cells are on, and which are held
pub record Tells (q : Question) (g : Lattice) (sets : ℕ → Place → Bool) (v : ℕ → Bool) : Type 0 where
  pub choice : (p c : ℕ) → p < cells_of q → c < many_controls q → v (choice q p c) ≡ is_control (control_of q c) (control_at g (place_of q.size p))
  pub value : (p t : ℕ) → p < cells_of q → t < many_asked q → v (value q p t) ≡ is_on_in g q.array (asked_at q t) (place_of q.size p)
  pub mark : (p t : ℕ) → p < cells_of q → t < many_asked q → v (mark q p t) ≡ sets t (place_of q.size p)

-- whether the control of this number stands at a cell, and whether a cell is on or held at the assignment of this number
abbrev stood : Question → Lattice → ℕ → ℕ → Bool
stood q g p c = is_control (control_of q c) (control_at g (place_of q.size p))

abbrev lit : Question → Lattice → ℕ → ℕ → Bool
lit q g t p = is_on_in g q.array (asked_at q t) (place_of q.size p)

abbrev held : Question → (ℕ → Place → Bool) → ℕ → ℕ → Bool
held q sets t p = sets t (place_of q.size p)

abbrev pub told : Question → Lattice → (ℕ → Place → Bool) → ℕ → Bool
told q g sets var = value_by (cells_of q) (many_controls q) (many_asked q) (stood q g) (lit q g) (held q sets) (var - 1)

pub Tells-told : (q : Question) (g : Lattice) (sets : ℕ → Place → Bool) → Tells q g sets (told q g sets)
Tells-told q g sets = record {
  choice = λ p c in_cells in_controls. value_by-first (cells_of q) (many_controls q) (many_asked q) (stood q g) (lit q g) (held q sets) (choice q p c - 1) p c (omega arith) in_cells in_controls;
  value = λ p t in_cells in_asked. value_by-second (cells_of q) (many_controls q) (many_asked q) (stood q g) (lit q g) (held q sets) (value q p t - 1) t p (omega arith) in_asked in_cells;
  mark = λ p t in_cells in_asked. value_by-third (cells_of q) (many_controls q) (many_asked q) (stood q g) (lit q g) (held q sets) (mark q p t - 1) t p (omega arith) in_asked in_cells;
}

same_or_other : (a b : Bool) → (a ≡ b) ⊎ (a ≡ not b)
same_or_other true true = inl refl
same_or_other true false = inr refl
same_or_other false true = inr refl
same_or_other false false = inl refl

module _ (q : Question) (g : Lattice) (sets : ℕ → Place → Bool) (v : ℕ → Bool) (tells : Tells q g sets v) where
  -- the control at a cell
  abbrev stands : ℕ → Control
  stands p = control_at g (place_of q.size p)

  -- some control is chosen
  choices_true : IsOverRails q.function.inputs q.rails g → All (IsMet v) (choices q)
  choices_true over = All-map_below (IsMet v) (λ p. map (λ c. yes (choice q p c)) (below (many_controls q))) (cells_of q)
      (λ p in_cells.
      let found = control_found q.function.inputs q.rails (stands p) (stands_at q.function.inputs q.rails g (place_of q.size p) over) in
      let e : 0 + found.0 ≡ found.0 = omega arith in
      some_true v (λ c. yes (choice q p c)) 0 (many_controls q) found.0 found.1
      (yes-true v (choice q p (0 + found.0)) (ap (λ c. v (choice q p c)) e ∙ tells.choice p found.0 in_cells found.1 ∙ ap (λ k. is_control k (stands p)) found.2 ∙ is_control-same (stands p))))

  -- a cell is on as the control that is chosen says
  valued : (p t : ℕ) (on : Bool) (rest : List Literal) → p < cells_of q → t < many_asked q → lit q g t p ≡ on → IsMet v (is_valued q on p t ∷ rest)
  valued p t on rest in_cells in_asked is = one_true v (is_valued q on p t) rest (asks-true v (value q p t) on (tells.value p t in_cells in_asked ∙ is))

  values_sound : (p t c : ℕ) → p < cells_of q → t < many_asked q → c < many_controls q → defect_in q.array (place_of q.size p) ≡ Sound
      → IsMet v (no (choice q p c) ∷ is_valued q (value_of (control_of q c) (asked_at q t)) p t ∷ [])
  values_sound p t c in_cells in_asked in_controls sound = elim (cases_Bool (is_control (control_of q c) (stands p))) [
    | inl same ↦
        let is : stands p ≡ control_of q c = sym (is_control-true (control_of q c) (stands p) same) in
        later_true v (no (choice q p c)) (is_valued q (value_of (control_of q c) (asked_at q t)) p t ∷ [])
        (valued p t (value_of (control_of q c) (asked_at q t)) [] in_cells in_asked
        (ap (λ d. with_defect d (value_of (stands p) (asked_at q t))) sound ∙ ap (λ k. value_of k (asked_at q t)) is))
    | inr other ↦ one_true v (no (choice q p c)) (is_valued q (value_of (control_of q c) (asked_at q t)) p t ∷ [])
        (no-true v (choice q p c) (tells.choice p c in_cells in_controls ∙ other))
  ]

  values_at : (d : Defect) (p : ℕ) → defect_in q.array (place_of q.size p) ≡ d → p < cells_of q → All (IsMet v) (values_with q d p)
  values_at Sound p is in_cells = All-flat_map_below (IsMet v)
      (λ c. map (λ t. no (choice q p c) ∷ is_valued q (value_of (control_of q c) (asked_at q t)) p t ∷ []) (below (many_asked q))) (many_controls q)
      (λ c in_controls. All-map_below (IsMet v) (λ t. no (choice q p c) ∷ is_valued q (value_of (control_of q c) (asked_at q t)) p t ∷ []) (many_asked q)
      (λ t in_asked. values_sound p t c in_cells in_asked in_controls is))
  values_at StuckOpen p is in_cells = All-map_below (IsMet v) (λ t. is_valued q false p t ∷ []) (many_asked q)
      (λ t in_asked. valued p t false [] in_cells in_asked (ap (λ d. with_defect d (value_of (stands p) (asked_at q t))) is))
  values_at StuckClosed p is in_cells = All-map_below (IsMet v) (λ t. is_valued q true p t ∷ []) (many_asked q)
      (λ t in_asked. valued p t true [] in_cells in_asked (ap (λ d. with_defect d (value_of (stands p) (asked_at q t))) is))

  values_true : All (IsMet v) (values q)
  values_true = All-flat_map_below (IsMet v) (λ p. values_with q (defect_in q.array (place_of q.size p)) p) (cells_of q)
      (λ p in_cells. values_at (defect_in q.array (place_of q.size p)) p refl in_cells)

  -- what is held keeps the clauses of the marks
  module _ (t : ℕ) (in_asked : t < many_asked q) (through : Bool) (Start End : Place → Type 0) (Next : Place → Place → Type 0)
      (closed : IsClosed q.size through (is_on_in g q.array (asked_at q t)) Start End Next (sets t)) where
    start_true : (p : ℕ) → IsWithin q.size (place_of q.size p) → (p < cells_of q) × Start (place_of q.size p)
        → IsMet v (is_valued q (not through) p t ∷ yes (mark q p t) ∷ [])
    start_true p within h = elim (same_or_other (lit q g t p) through) [
      | inl same ↦ later_true v (is_valued q (not through) p t) (yes (mark q p t) ∷ [])
          (one_true v (yes (mark q p t)) [] (yes-true v (mark q p t) (tells.mark p t h.0 in_asked ∙ closed.start (place_of q.size p) within same h.1)))
      | inr other ↦ valued p t (not through) (yes (mark q p t) ∷ []) h.0 in_asked other
    ]

    step_true : (p r : ℕ) → IsWithin q.size (place_of q.size p) → IsWithin q.size (place_of q.size r) → p < cells_of q
        → (r < cells_of q) × Next (place_of q.size p) (place_of q.size r)
        → IsMet v (no (mark q p t) ∷ is_valued q (not through) r t ∷ yes (mark q r t) ∷ [])
    step_true p r within there in_cells h = elim (cases_Bool (sets t (place_of q.size p))) [
      | inl has ↦ later_true v (no (mark q p t)) (is_valued q (not through) r t ∷ yes (mark q r t) ∷ []) (elim (same_or_other (lit q g t r) through) [
        | inl same ↦ later_true v (is_valued q (not through) r t) (yes (mark q r t) ∷ [])
            (one_true v (yes (mark q r t)) [] (yes-true v (mark q r t)
            (tells.mark r t h.0 in_asked ∙ closed.step (place_of q.size p) (place_of q.size r) within has h.1 there same)))
        | inr other ↦ valued r t (not through) (yes (mark q r t) ∷ []) h.0 in_asked other
      ])
      | inr lacks ↦ one_true v (no (mark q p t)) (is_valued q (not through) r t ∷ yes (mark q r t) ∷ []) (no-true v (mark q p t) (tells.mark p t in_cells in_asked ∙ lacks))
    ]

    stop_true : (p : ℕ) → IsWithin q.size (place_of q.size p) → (p < cells_of q) × End (place_of q.size p) → IsMet v (no (mark q p t) ∷ [])
    stop_true p within h = one_true v (no (mark q p t)) [] (no-true v (mark q p t)
        (tells.mark p t h.0 in_asked ∙ false_from_ne_true (sets t (place_of q.size p)) (λ has. closed.stops (place_of q.size p) within has h.1)))

    closed_true : (start : List ℕ) (next : ℕ → List ℕ) (end : List ℕ) → 1 ≤ q.size.cols
        → All (λ p. (p < cells_of q) × Start (place_of q.size p)) start
        → ((p : ℕ) → p < cells_of q → All (λ r. (r < cells_of q) × Next (place_of q.size p) (place_of q.size r)) (next p))
        → All (λ p. (p < cells_of q) × End (place_of q.size p)) end
        → All (IsMet v) (closed_marks q t through start next end)
    closed_true start next end some starts steps ends =
        All-append (IsMet v) (map (λ p. is_valued q (not through) p t ∷ yes (mark q p t) ∷ []) start) _
        (All-map_of (IsMet v) (λ p. (p < cells_of q) × Start (place_of q.size p)) (λ p. is_valued q (not through) p t ∷ yes (mark q p t) ∷ [])
        (λ p h. start_true p (place_of-within q.size p some h.0) h) start starts)
        (All-append (IsMet v)
        (flat_map (λ p. map (λ r. no (mark q p t) ∷ is_valued q (not through) r t ∷ yes (mark q r t) ∷ []) (next p)) (below (cells_of q))) (map (λ p. no (mark q p t) ∷ []) end)
        (All-flat_map_below (IsMet v) (λ p. map (λ r. no (mark q p t) ∷ is_valued q (not through) r t ∷ yes (mark q r t) ∷ []) (next p)) (cells_of q)
        (λ p in_cells. All-map_of (IsMet v) (λ r. (r < cells_of q) × Next (place_of q.size p) (place_of q.size r))
        (λ r. no (mark q p t) ∷ is_valued q (not through) r t ∷ yes (mark q r t) ∷ [])
        (λ r h. step_true p r (place_of-within q.size p some in_cells) (place_of-within q.size r some h.0) in_cells h) (next p) (steps p in_cells)))
        (All-map_of (IsMet v) (λ p. (p < cells_of q) × End (place_of q.size p)) (λ p. no (mark q p t) ∷ [])
        (λ p h. stop_true p (place_of-within q.size p some h.0) h) end ends))

  marks_true : IsSize q.size → ((t : ℕ) → t < many_asked q → Shows q (is_on_in g q.array (asked_at q t)) (asked_at q t) (sets t))
      → All (IsMet v) (marks q)
  marks_true size shows = All-flat_map_below (IsMet v) (marks_at q) (many_asked q) (λ t in_asked.
      elim (set.contains q.function.on (asked_at q t)) as (λ b. set.contains q.function.on (asked_at q t) ≡ b → All (IsMet v)
      (cond b (closed_marks q t false (left q.size) (next_eight q.size) (right q.size)) (closed_marks q t true (top q.size) (next_four q.size) (bottom q.size)))) [
        | true ↦ λ here. closed_true t in_asked false (λ p. p.col ≡ 0) (λ p. p.col + 1 ≡ q.size.cols) AreEightNeighbours
            (IsClosed-beside q.size (is_on_in g q.array (asked_at q t)) (sets t) ((shows t in_asked).on here))
            (left q.size) (next_eight q.size) (right q.size) size.some_cols (left_cells q.size size) (λ p _. eight_cells q.size (place_of q.size p)) (right_cells q.size size)
        | false ↦ λ here. closed_true t in_asked true (λ p. p.row ≡ 0) (λ p. p.row + 1 ≡ q.size.rows) AreFourNeighbours
            (IsClosed-below q.size (is_on_in g q.array (asked_at q t)) (sets t) ((shows t in_asked).off here))
            (top q.size) (next_four q.size) (bottom q.size) size.some_cols (top_cells q.size size) (λ p _. four_cells q.size (place_of q.size p)) (bottom_cells q.size size)
      ] refl)

  pub satisfied : IsSize q.size → IsOverRails q.function.inputs q.rails g → ((t : ℕ) → t < many_asked q → Shows q (is_on_in g q.array (asked_at q t)) (asked_at q t) (sets t)) → Satisfies v (encoding q)
  unfolding encoding
  satisfied size over shows clause here =
      All-contains (IsMet v) (choices q ++ (values q ++ marks q)) clause
      (All-append (IsMet v) (choices q) (values q ++ marks q) (choices_true over)
      (All-append (IsMet v) (values q) (marks q) values_true (marks_true size shows))) here

  pub chosen : (p c : ℕ) → p < cells_of q → c < many_controls q → (v (choice q p c) ≡ true) ↔ (control_at g (place_of q.size p) ≡ control_of q c)
  chosen p c in_cells in_controls =
      let says = tells.choice p c in_cells in_controls in (
        λ is. sym (is_control-true (control_of q c) (stands p) (sym says ∙ is)),
        λ is. says ∙ ap (is_control (control_of q c)) is ∙ is_control-same (control_of q c),
      )

pub has_model : HasModel
has_model q g asked kept same over realises =
    let all = all_shown q g same realises in
    let v = told q g all.0 in
    let tells = Tells-told q g all.0 in
    (v, record { satisfies = satisfied q g all.0 v tells asked.size over all.1; chooses = chosen q g all.0 v tells })

-- where some lattice answers the question, the encoding has a solution
pub solution_of : (q : Question) → IsQuestion q → IsRealisedIn q.function.inputs q.rails q.function q.size q.array → HasSolution (encoding q)
solution_of q asked h =
    let model = has_model q h.lattice asked h.kept h.size_is h.over h.realises in
    (model.0, model.1.satisfies)
