-- How many clauses the formula has: fewer than a formula may have.
use Rattle.std.proofs.Common.{◌≡◌, ℕ, suc, zero, ◌+◌, ◌-◌, ◌*◌, ◌≤◌, ◌<◌, inl, inr, Bool, true, false, cond, arith, List, [], ◌∷◌, ◌++◌, length, map, refl, ap, ◌∙◌, length-append, append_assoc, ◌%◌}
use Rattle.std.specs.List.{flat_map}
use Rattle.std.specs.FinSet as set
use Rattle.std.proofs.lemmas.Bool.{cases_eq}
use Rattle.std.proofs.lemmas.List.{length-map}
use Rattle.std.proofs.lemmas.List.FromFn.{length-range_with_len, length-map-range_with_len}
use Rattle.std.proofs.lemmas.Nat.{mul-le}
use Rattle.clause_core.specs.Formula.{Formula, most_clauses}
use Rattle.lattice_grid.specs.declared.array.Defect.{Defect}
use Rattle.lattice_grid.specs.declared.array.Defect.TheVariants.{Sound, StuckOpen, StuckClosed}
use Rattle.lattice_grid.specs.declared.shape.Place.{Place}
use Rattle.lattice_grid.specs.Neighbours.{near_cell, has_near, near_of, four_of, eight_of}
use Rattle.lattice_grid.specs.Rectangle.{Size}
use Rattle.lattice_grid.proofs.Tools.{IsNear-read, some_controls}
use Rattle.path_meaning.specs.Defective.{defect_in}
use Rattle.reach_encoding.specs.Encoding.{Question, below, asked_at, cells_of, many_controls, many_asked, place_of, number_of, choices, values_with, values, closed_marks, top, bottom, left, right, next_four, next_eight, marks_at, marks, encoding}
use Rattle.reach_encoding.specs.EncodeParts.{vars_of, IsAsked, Adds, HasRoom, choice_clause, value_clause, stuck_clause, start_clause, step_clause, end_clause}
use Rattle.reach_encoding.proofs.EncodeLists.{flat_map_below_more}
use Rattle.reach_encoding.proofs.EncodeNumbers.{few_of}

pub length-flat_map_le : {X : Type 0} (f : ℕ → List X) (n b : ℕ) → ((i : ℕ) → i < n → length (f i) ≤ b) → length (flat_map f (below n)) ≤ n * b
length-flat_map_le f zero b h = omega arith
length-flat_map_le f (suc n) b h =
    let next : suc n ≡ n + 1 = omega arith in
    let same : length (flat_map f (below (suc n))) ≡ length (flat_map f (below n)) + length (f n) = ap (λ k. length (flat_map f (below k))) next ∙ ap length (flat_map_below_more f n) ∙ length-append (flat_map f (below n)) (f n) in
    let before = length-flat_map_le f n b (λ i k. h i (omega arith)) in
    let here = h n (omega arith) in
    omega arith

-- ---- neighbours
near_few : (s : Size) (p : Place) (down right : ℕ) → length (near_of s p down right) ≤ 1
near_few s p down right = elim (has_near s p down right) as (λ b. length (cond b (near_cell p down right ∷ []) []) ≤ 1) [ true ↦ omega arith | false ↦ omega arith ]

near_none : (s : Size) (p : Place) (down right : ℕ) → p.col + right ≡ 0 → length (near_of s p down right) ≡ 0
near_none s p down right e =
    elim (has_near s p down right) as (λ b. has_near s p down right ≡ b → length (cond b (near_cell p down right ∷ []) []) ≡ 0) [
      | true ↦ λ has. let col = (IsNear-read s p down right has).col in absurd (omega arith)
      | false ↦ λ _. refl
    ] refl

length-four : (s : Size) (p : Place) → length (four_of s p) ≡ length (near_of s p 0 1) + length (near_of s p 1 0) + length (near_of s p 1 2) + length (near_of s p 2 1)
length-four s p = grind (arith, length-append)

length-eight : (s : Size) (p : Place) → length (eight_of s p) ≡ length (near_of s p 0 0) + length (near_of s p 0 1) + length (near_of s p 0 2) + length (near_of s p 1 0) + length (near_of s p 1 2) + length (near_of s p 2 0) + length (near_of s p 2 1) + length (near_of s p 2 2)
length-eight s p = simp length-append

four_few : (s : Size) (p : Place) → length (four_of s p) ≤ 4
four_few s p = omega (arith, length-four s p, near_few s p 0 1, near_few s p 1 0, near_few s p 1 2, near_few s p 2 1)

eight_few : (s : Size) (p : Place) → length (eight_of s p) ≤ 8
eight_few s p = omega (arith, length-eight s p, near_few s p 0 0, near_few s p 0 1, near_few s p 0 2, near_few s p 1 0, near_few s p 1 2, near_few s p 2 0, near_few s p 2 1, near_few s p 2 2)

eight_left_few : (s : Size) (p : Place) → p.col ≡ 0 → length (eight_of s p) ≤ 5
eight_left_few s p e =
    let left : p.col + 0 ≡ 0 = omega arith in
    omega (arith, length-eight s p, near_none s p 0 0 left, near_few s p 0 1, near_few s p 0 2, near_none s p 1 0 left, near_few s p 1 2, near_none s p 2 0 left, near_few s p 2 1, near_few s p 2 2)

-- ---- the clauses
length-values_with : (q : Question) (d : Defect) (p : ℕ) → length (values_with q d p) ≤ many_controls q * many_asked q
length-values_with q Sound p =
    length-flat_map_le (λ c. map (value_clause q p c) (below (many_asked q))) (many_controls q) (many_asked q)
    (λ c _. let many = length-map-range_with_len (value_clause q p c) 0 (many_asked q) in omega arith)
length-values_with q StuckOpen p =
    let many = length-map-range_with_len (stuck_clause q false p) 0 (many_asked q) in
    let some = some_controls q.function.inputs q.rails in
    let more = mul-le 1 (many_asked q) (many_controls q) (many_asked q) (omega arith) (omega arith) in
    omega arith
length-values_with q StuckClosed p =
    let many = length-map-range_with_len (stuck_clause q true p) 0 (many_asked q) in
    let some = some_controls q.function.inputs q.rails in
    let more = mul-le 1 (many_asked q) (many_controls q) (many_asked q) (omega arith) (omega arith) in
    omega arith

length-values : (q : Question) → length (values q) ≤ cells_of q * (many_controls q * many_asked q)
length-values q =
    length-flat_map_le (λ p. values_with q (defect_in q.array (place_of q.size p)) p) (cells_of q) (many_controls q * many_asked q)
    (λ p _. length-values_with q (defect_in q.array (place_of q.size p)) p)

length-closed_marks : (q : Question) (t : ℕ) (through : Bool) (start end : List ℕ) (next : ℕ → List ℕ) (few : ℕ) → ((p : ℕ) → p < cells_of q → length (next p) ≤ few) → length (closed_marks q t through start next end) ≤ length start + cells_of q * few + length end
length-closed_marks q t through start end next few h =
    let steps = length-flat_map_le (λ p. map (step_clause q t through p) (next p)) (cells_of q) few (λ p k. let here = length-map (next p) (step_clause q t through p) in let less = h p k in omega arith) in
    let first = length-map start (start_clause q t through) in
    let last = length-map end (end_clause q t) in
    let both = length-append (flat_map (λ p. map (step_clause q t through p) (next p)) (below (cells_of q))) (map (end_clause q t) end) in
    let all = length-append (map (start_clause q t through) start) (flat_map (λ p. map (step_clause q t through p) (next p)) (below (cells_of q)) ++ map (end_clause q t) end) in
    omega arith

length-paths : (q : Question) (t : ℕ) → IsAsked q → length (closed_marks q t true (top q.size) (next_four q.size) (bottom q.size)) ≤ 9 * cells_of q
length-paths q t asked =
    let some = asked.size.some_rows in
    let whole = length-closed_marks q t true (top q.size) (bottom q.size) (next_four q.size) 4
    (λ p k. let here = length-map (four_of q.size (place_of q.size p)) (number_of q.size) in let few = four_few q.size (place_of q.size p) in omega arith) in
    let first = length-range_with_len 0 q.size.cols in
    let last = length-map-range_with_len (λ col. (q.size.rows - 1) * q.size.cols + col) 0 q.size.cols in
    let more = mul-le 1 q.size.cols q.size.rows q.size.cols some (omega arith) in
    omega arith

length-cuts_by : (q : Question) (t few : ℕ) → ((p : ℕ) → p < cells_of q → length (eight_of q.size (place_of q.size p)) ≤ few) → length (closed_marks q t false (left q.size) (next_eight q.size) (right q.size)) ≤ cells_of q * few + 2 * q.size.rows
length-cuts_by q t few h =
    let whole = length-closed_marks q t false (left q.size) (right q.size) (next_eight q.size) few
    (λ p k. let here = length-map (eight_of q.size (place_of q.size p)) (number_of q.size) in let less = h p k in omega arith) in
    let first = length-map-range_with_len (λ row. row * q.size.cols) 0 q.size.rows in
    let last = length-map-range_with_len (λ row. row * q.size.cols + (q.size.cols - 1)) 0 q.size.rows in
    omega arith

-- where there is one column each cell has few neighbours, and else there are at least two cells in each row
length-cuts : (q : Question) (t : ℕ) → IsAsked q → length (closed_marks q t false (left q.size) (next_eight q.size) (right q.size)) ≤ 9 * cells_of q
length-cuts q t asked =
    let some = asked.size.some_cols in
    elim (cases_eq q.size.cols 1) [
      | inl one ↦
          let cells : cells_of q ≡ q.size.rows = ap (λ n. q.size.rows * n) one ∙ omega arith in
          let whole = length-cuts_by q t 5 (λ p _. eight_left_few q.size (place_of q.size p) (ap (λ n. p % n) one ∙ omega arith)) in
          omega arith
      | inr other ↦
          let two : 2 ≤ q.size.cols = omega arith in
          let cells = mul-le q.size.rows 2 q.size.rows q.size.cols (omega arith) two in
          let whole = length-cuts_by q t 8 (λ p _. eight_few q.size (place_of q.size p)) in
          omega arith
    ]

length-marks_at : (q : Question) (t : ℕ) → IsAsked q → length (marks_at q t) ≤ 9 * cells_of q
length-marks_at q t asked =
    elim (set.contains q.function.on (asked_at q t)) as (λ b. length (cond b (closed_marks q t false (left q.size) (next_eight q.size) (right q.size)) (closed_marks q t true (top q.size) (next_four q.size) (bottom q.size))) ≤ 9 * cells_of q) [
      | true ↦ length-cuts q t asked
      | false ↦ length-paths q t asked
    ]

few_clauses : (P K M a b c : ℕ) → P ≤ 32768 → K ≤ 22 → M ≤ 1024 → a ≡ P → b ≤ P * (K * M) → c ≤ M * (9 * P) → a + (b + c) ≤ 1073741824
few_clauses P K M a b c p k m ea hb hc =
    let km = mul-le K M 22 1024 k m in
    let pkm = mul-le P (K * M) 32768 22528 p (omega arith) in
    let mp = mul-le M (9 * P) 1024 294912 m (omega arith) in
    omega arith

-- the whole formula has few enough clauses
pub length-clauses : (q : Question) → IsAsked q → length (choices q ++ (values q ++ marks q)) ≤ most_clauses
length-clauses q asked =
    let few = few_of q asked in
    let all = length-append (choices q) (values q ++ marks q) in
    let rest = length-append (values q) (marks q) in
    let bound = few_clauses (cells_of q) (many_controls q) (many_asked q) (length (choices q)) (length (values q)) (length (marks q)) asked.few few.controls few.assignments
    (length-map-range_with_len (choice_clause q) 0 (cells_of q)) (length-values q)
    (length-flat_map_le (marks_at q) (many_asked q) (9 * cells_of q) (λ t _. length-marks_at q t asked)) in
    omega arith

-- ---- the whole formula
pub room_at_start : (q : Question) (a : Formula) → IsAsked q → a ≡ record { vars = vars_of q; clauses = [] } → HasRoom q a (choices q ++ (values q ++ marks q))
room_at_start q a asked e = let few = length-clauses q asked in rw e (record { vars = refl; room = omega arith })

pub encoding_whole : (q : Question) (a b c d : Formula) → a ≡ record { vars = vars_of q; clauses = [] } → Adds a b (choices q) → Adds b c (values q) → Adds c d (marks q) → d ≡ encoding q
unfolding encoding
encoding_whole q a b c d e h k m =
    let vars : d.vars ≡ vars_of q = m.vars ∙ k.vars ∙ h.vars ∙ ap (λ f. f.vars) e in
    let clauses : d.clauses ≡ choices q ++ (values q ++ marks q) =
    m.clauses ∙ ap (λ xs. xs ++ marks q) (k.clauses ∙ ap (λ xs. xs ++ values q) (h.clauses ∙ ap (λ f. f.clauses ++ choices q) e)) ∙ append_assoc (choices q) (values q) (marks q) in
    λ i. record { vars = vars i; clauses = clauses i }
