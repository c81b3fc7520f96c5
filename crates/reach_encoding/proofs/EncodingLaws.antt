-- General facts behind the formula: which clauses a list has, which cell a number is, which assignments are asked.
use Rattle.std.proofs.Common.{◌≡◌, ℕ, suc, zero, ◌+◌, ◌-◌, ◌*◌, ◌/◌, ◌%◌, ◌^◌, ◌<◌, ◌⊎◌, inl, inr, Bool, true, false, not, List, [], ◌∷◌, ◌++◌, length, map, get_or, refl, sym, ap, ◌∙◌, subst, arith}
use Rattle.std.specs.Prelude.{All}
use Rattle.std.specs.List.{Contains, flat_map, range_with_len}
use Rattle.std.specs.FinSet as set
use Rattle.std.specs.Cmp.{nat_cmp_total}
use Rattle.std.proofs.lemmas.Bool.{or_cases, or_left, or_right, both_ways, false≢true, cases_Bool, false_from_ne_true, not-true, not_from_false}
use Rattle.std.proofs.lemmas.List.Elements.{Contains-append_left, Contains-append_right, Contains-append_cases}
use Rattle.std.proofs.lemmas.List.FromFn.{length-range_with_len, get_or-range_with_len}
use Rattle.std.proofs.lemmas.Nat.{mul-add-lt, div-mul-add, mod-mul-add, div-add-mod', div_below}
use Rattle.clause_core.specs.Literal.{Literal, is_true, clause_is_true}
use Rattle.clause_core.specs.Formula.{Satisfies}
use Rattle.lattice_grid.specs.declared.array.Defect.{Defect}
use Rattle.lattice_grid.specs.declared.array.Defect.TheVariants.{Sound, StuckOpen, StuckClosed}
use Rattle.lattice_grid.specs.Control.{value_of}
use Rattle.path_meaning.specs.Defective.{defect_in, with_defect}
use Rattle.lattice_grid.specs.declared.shape.Place.{Place}
use Rattle.lattice_grid.specs.Rectangle.{Size}
use Rattle.lattice_grid.specs.Path.{IsWithin, AreFourNeighbours, AreEightNeighbours}
use Rattle.lattice_grid.specs.Neighbours.{HasNeighbours, four_of, eight_of}
use Rattle.lattice_grid.proofs.Tools.{place_eq, four_neighbours, eight_neighbours, HasPlace-rising, All-rising}
use Rattle.cube_core.specs.Function.{Function, IsFunction}
use Rattle.reach_encoding.specs.Encoding.{Question, below, asked_at, cells_of, many_controls, many_asked, choice, value, mark, yes, no, is_valued, control_of, place_of, number_of, top, bottom, left, right, next_four, next_eight, choices, values_with, values, closed_marks, marks_at, marks, encoding}

-- What is in a list of one more, in a map of a list, and in lists joined end to end.
pub Contains-first : {X : Type 0} → (x : X) (xs : List X) → Contains (x ∷ xs) x
Contains-first x xs = (0, omega arith, refl)

pub Contains-later : {X : Type 0} → (x : X) (xs : List X) (y : X) → Contains xs y → Contains (x ∷ xs) y
Contains-later x xs y h = (suc h.0, omega (arith, h.1), h.2)

pub Contains-cons_cases : {X : Type 0} → (x : X) (xs : List X) (y : X) → Contains (x ∷ xs) y → (x ≡ y) ⊎ Contains xs y
Contains-cons_cases {X} x xs y h = go h.0 h.1 h.2 where
  go : (k : ℕ) → k < length (x ∷ xs) → get_or (x ∷ xs) k y ≡ y → (x ≡ y) ⊎ Contains xs y
  go zero w e = inl e
  go (suc k) w e = inr (k, omega (arith, w), e)

pub Contains-none : {X : Type 0} → (y : X) → Contains [] y → ⊥
Contains-none y h = let none = h.1 in absurd (omega arith)

pub Contains-map : {X Y : Type 0} (f : X → Y) → (xs : List X) (x : X) → Contains xs x → Contains (map f xs) (f x)
Contains-map f [] x h = absurd (Contains-none x h)
Contains-map f (z ∷ xs) x h = elim (Contains-cons_cases z xs x h) [
  | inl e ↦ subst (λ w. Contains (f z ∷ map f xs) (f w)) e (Contains-first (f z) (map f xs))
  | inr k ↦ Contains-later (f z) (map f xs) (f x) (Contains-map f xs x k)
]

pub map-Contains : {X Y : Type 0} (f : X → Y) → (xs : List X) (y : Y) → Contains (map f xs) y → (x : X) × Contains xs x × (f x ≡ y)
map-Contains f [] y h = absurd (Contains-none y h)
map-Contains f (z ∷ xs) y h = elim (Contains-cons_cases (f z) (map f xs) y h) [
  | inl e ↦ (z, Contains-first z xs, e)
  | inr k ↦ let found = map-Contains f xs y k in (found.0, Contains-later z xs found.0 found.1, found.2)
]

pub Contains-flat_map : {X A : Type 0} (f : X → List A) → (xs : List X) (x : X) (a : A) → Contains xs x → Contains (f x) a → Contains (flat_map f xs) a
Contains-flat_map f [] x a h here = absurd (Contains-none x h)
Contains-flat_map f (z ∷ xs) x a h here = elim (Contains-cons_cases z xs x h) [
  | inl e ↦ Contains-append_left (f z) (flat_map f xs) a (subst (λ w. Contains (f w) a) (sym e) here)
  | inr k ↦ Contains-append_right (f z) (flat_map f xs) a (Contains-flat_map f xs x a k here)
]

pub flat_map-Contains : {X A : Type 0} (f : X → List A) → (xs : List X) (a : A) → Contains (flat_map f xs) a → (x : X) × Contains xs x × Contains (f x) a
flat_map-Contains f [] a h = absurd (Contains-none a h)
flat_map-Contains f (z ∷ xs) a h = elim (Contains-append_cases (f z) (flat_map f xs) a h) [
  | inl k ↦ (z, Contains-first z xs, k)
  | inr k ↦ let found = flat_map-Contains f xs a k in (found.0, Contains-later z xs found.0 found.1, found.2)
]

-- The numbers below n are exactly those in the list.
pub Contains-below : (n k : ℕ) → k < n → Contains (below n) k
Contains-below n k h = (k, omega (arith, length-range_with_len 0 n), get_or-range_with_len 0 n k k h ∙ omega arith)

pub below-Contains : (n k : ℕ) → Contains (below n) k → k < n
below-Contains n k h =
    let w : h.0 < n = omega (arith, h.1, length-range_with_len 0 n) in
    let e : get_or (range_with_len 0 n) h.0 k ≡ k = h.2 in
    let is = get_or-range_with_len 0 n h.0 k w in
    omega arith

pub All-below : (n : ℕ) → All (λ k. k < n) (below n)
All-below n k d within =
    let w : k < n = omega (arith, within, length-range_with_len 0 n) in
    let is = get_or-range_with_len 0 n k d w in
    omega arith

-- A cell is counted row by row: place and number are inverse within the rectangle.
pub place_within : (s : Size) (p : ℕ) → p < s.rows * s.cols → IsWithin s (place_of s p)
place_within s p h = go s.rows s.cols h where
  go : (rows cols : ℕ) → p < rows * cols → (p / cols < rows) × (p % cols < cols)
  go rows zero h = absurd (omega arith)
  go rows (suc c) h = (div_below p (suc c) rows (omega arith) h, omega arith)

pub number_below : (s : Size) (p : Place) → IsWithin s p → number_of s p < s.rows * s.cols
number_below s p h = omega (arith, mul-add-lt p.row s.cols p.col s.rows h.0 h.1)

pub place-number : (s : Size) (p : Place) → IsWithin s p → place_of s (number_of s p) ≡ p
place-number s p h = place_eq (place_of s (number_of s p)) p (div-mul-add p.row s.cols p.col h.1) (mod-mul-add p.row s.cols p.col h.1)

pub number-place : (s : Size) (p : ℕ) → number_of s (place_of s p) ≡ p
number-place s p = div-add-mod' p s.cols

-- The cells of each side, by number.
pub Contains-bottom : (s : Size) (p : Place) → IsWithin s p → p.row + 1 ≡ s.rows → Contains (bottom s) (number_of s p)
Contains-bottom s p within last =
    let row : s.rows - 1 ≡ p.row = omega arith in
    subst (λ r. Contains (bottom s) (r * s.cols + p.col)) row (Contains-map (λ col. (s.rows - 1) * s.cols + col) (below s.cols) p.col (Contains-below s.cols p.col within.1))

pub Contains-top : (s : Size) (p : Place) → IsWithin s p → p.row ≡ 0 → Contains (top s) (number_of s p)
Contains-top s p within first = subst (λ r. Contains (top s) (r * s.cols + p.col)) (sym first) (subst (Contains (top s)) (omega arith) (Contains-below s.cols p.col within.1))

pub Contains-right : (s : Size) (p : Place) → IsWithin s p → p.col + 1 ≡ s.cols → Contains (right s) (number_of s p)
Contains-right s p within last =
    let col : s.cols - 1 ≡ p.col = omega arith in
    subst (λ c. Contains (right s) (p.row * s.cols + c)) col (Contains-map (λ row. row * s.cols + (s.cols - 1)) (below s.rows) p.row (Contains-below s.rows p.row within.0))

pub Contains-left : (s : Size) (p : Place) → IsWithin s p → p.col ≡ 0 → Contains (left s) (number_of s p)
Contains-left s p within first =
    subst (Contains (left s)) (omega arith) (Contains-map (λ row. row * s.cols) (below s.rows) p.row (Contains-below s.rows p.row within.0))

-- and what is on a list of a side is a cell of it
pub top-Contains : (s : Size) (p : ℕ) → 0 < s.rows → Contains (top s) p → (c : Place) × IsWithin s c × (c.row ≡ 0) × (number_of s c ≡ p)
top-Contains s p some h = let b = below-Contains s.cols p h in (record { row = 0; col = p }, (some, b), refl, omega arith)

pub bottom-Contains : (s : Size) (p : ℕ) → 0 < s.rows → Contains (bottom s) p → (c : Place) × IsWithin s c × (c.row + 1 ≡ s.rows) × (number_of s c ≡ p)
bottom-Contains s p some h =
    let found = map-Contains (λ col. (s.rows - 1) * s.cols + col) (below s.cols) p h in
    let b = below-Contains s.cols found.0 found.1 in
    (record { row = s.rows - 1; col = found.0 }, (omega arith, b), omega arith, found.2)

pub left-Contains : (s : Size) (p : ℕ) → 0 < s.cols → Contains (left s) p → (c : Place) × IsWithin s c × (c.col ≡ 0) × (number_of s c ≡ p)
left-Contains s p some h =
    let found = map-Contains (λ row. row * s.cols) (below s.rows) p h in
    let b = below-Contains s.rows found.0 found.1 in
    let e : found.0 * s.cols ≡ p = found.2 in
    (record { row = found.0; col = 0 }, (b, some), refl, omega arith)

pub right-Contains : (s : Size) (p : ℕ) → 0 < s.cols → Contains (right s) p → (c : Place) × IsWithin s c × (c.col + 1 ≡ s.cols) × (number_of s c ≡ p)
right-Contains s p some h =
    let found = map-Contains (λ row. row * s.cols + (s.cols - 1)) (below s.rows) p h in
    let b = below-Contains s.rows found.0 found.1 in
    (record { row = found.0; col = s.cols - 1 }, (b, omega arith), omega arith, found.2)

-- The numbers next to the number of a cell are those of its neighbours.
pub Contains-next : (R : Place → Place → Type 0) (near : Size → Place → List Place) → ((s : Size) (p : Place) → HasNeighbours R s p (near s p)) → (s : Size) (p q : Place) → IsWithin s p → IsWithin s q → R p q
    → Contains (map (number_of s) (near s (place_of s (number_of s p)))) (number_of s q)
Contains-next R near has s p q within within' h =
    subst (λ c. Contains (map (number_of s) (near s c)) (number_of s q)) (sym (place-number s p within)) (Contains-map (number_of s) (near s p) q ((has s p q).1 (within', h)))

pub next-Contains : (R : Place → Place → Type 0) (near : Size → Place → List Place) → ((s : Size) (p : Place) → HasNeighbours R s p (near s p)) → (s : Size) (p r : ℕ)
    → Contains (map (number_of s) (near s (place_of s p))) r → (q : Place) × IsWithin s q × R (place_of s p) q × (number_of s q ≡ r)
next-Contains R near has s p r h =
    let found = map-Contains (number_of s) (near s (place_of s p)) r h in
    let near' = (has s (place_of s p) found.0).0 found.1 in
    (found.0, near'.0, near'.1, found.2)

pub Contains-next_four : (s : Size) (p q : Place) → IsWithin s p → IsWithin s q → AreFourNeighbours p q → Contains (next_four s (number_of s p)) (number_of s q)
Contains-next_four = Contains-next AreFourNeighbours four_of four_neighbours

pub Contains-next_eight : (s : Size) (p q : Place) → IsWithin s p → IsWithin s q → AreEightNeighbours p q → Contains (next_eight s (number_of s p)) (number_of s q)
Contains-next_eight = Contains-next AreEightNeighbours eight_of eight_neighbours

pub next_four-Contains : (s : Size) (p r : ℕ) → Contains (next_four s p) r → (q : Place) × IsWithin s q × AreFourNeighbours (place_of s p) q × (number_of s q ≡ r)
next_four-Contains = next-Contains AreFourNeighbours four_of four_neighbours

pub next_eight-Contains : (s : Size) (p r : ℕ) → Contains (next_eight s p) r → (q : Place) × IsWithin s q × AreEightNeighbours (place_of s p) q × (number_of s q ≡ r)
next_eight-Contains = next-Contains AreEightNeighbours eight_of eight_neighbours

-- The assignments asked are those at which the function is 1 or 0.
pub in_either : (f : Function) (x : ℕ) → (set.contains f.on x ≡ true) ⊎ (set.contains f.off x ≡ true) → set.contains (set.union f.on f.off) x ≡ true
in_either f x h = set.contains-union nat_cmp_total f.on f.off x ∙ elim h [
  | inl e ↦ or_left (set.contains f.on x) (set.contains f.off x) e
  | inr e ↦ or_right (set.contains f.on x) (set.contains f.off x) e
]

pub asked_found : (q : Question) (x : ℕ) → IsFunction q.function → (set.contains q.function.on x ≡ true) ⊎ (set.contains q.function.off x ≡ true) → (t : ℕ) × (t < many_asked q) × (asked_at q t ≡ x)
asked_found q x ok h =
    let small : x < 2 ^ q.function.inputs = elim h [ inl e ↦ ok.on_below x e | inr e ↦ ok.off_below x e ] in
    let found = HasPlace-rising (2 ^ q.function.inputs) (set.union q.function.on q.function.off) x small (in_either q.function x h) in
    (found.place, found.within, found.here 0)

pub asked_is : (q : Question) (t : ℕ) → t < many_asked q → (asked_at q t < 2 ^ q.function.inputs) × ((set.contains q.function.on (asked_at q t) ≡ true) ⊎ (set.contains q.function.off (asked_at q t) ≡ true))
asked_is q t within =
    let here = All-rising (2 ^ q.function.inputs) (set.union q.function.on q.function.off) t 0 within in
    (here.0, or_cases (set.contains q.function.on (asked_at q t)) (set.contains q.function.off (asked_at q t)) (sym (set.contains-union nat_cmp_total q.function.on q.function.off (asked_at q t)) ∙ here.1))

-- what is not in on is in off, of the assignments that are asked
pub off_from_not_on : (q : Question) (t : ℕ) → t < many_asked q → set.contains q.function.on (asked_at q t) ≡ false → set.contains q.function.off (asked_at q t) ≡ true
off_from_not_on q t within not_on = elim (asked_is q t within).1 [ inl e ↦ absurd (both_ways (set.contains q.function.on (asked_at q t)) not_on e) | inr e ↦ e ]

pub not_on_from_off : (f : Function) (x : ℕ) → IsFunction f → set.contains f.off x ≡ true → set.contains f.on x ≡ false
not_on_from_off f x ok off = false_from_ne_true (set.contains f.on x) (λ on. ok.disjoint x on off)

-- When a literal is true.
pub yes-true : (v : ℕ → Bool) (x : ℕ) → is_true v (yes x) ≡ v x
unfolding is_true
yes-true v x = refl

pub no-true : (v : ℕ → Bool) (x : ℕ) → is_true v (no x) ≡ not (v x)
unfolding is_true
no-true v x = refl

pub valued_from_true : (v : ℕ → Bool) (q : Question) (b : Bool) (p t : ℕ) → is_true v (is_valued q b p t) ≡ true → v (value q p t) ≡ b
unfolding is_true
valued_from_true v q true p t h = h
valued_from_true v q false p t h = not-true (v (value q p t)) h

pub true_from_valued : (v : ℕ → Bool) (q : Question) (b : Bool) (p t : ℕ) → v (value q p t) ≡ b → is_true v (is_valued q b p t) ≡ true
unfolding is_true
true_from_valued v q true p t h = h
true_from_valued v q false p t h = not_from_false (v (value q p t)) h

-- A clause is true exactly where some literal of it is.
pub true_from_some : (v : ℕ → Bool) (clause : List Literal) (l : Literal) → Contains clause l → is_true v l ≡ true → clause_is_true v clause ≡ true
true_from_some v [] l h here = absurd (Contains-none l h)
true_from_some v (x ∷ xs) l h here = elim (Contains-cons_cases x xs l h) [
  | inl e ↦ or_left (is_true v x) (clause_is_true v xs) (ap (is_true v) e ∙ here)
  | inr k ↦ or_right (is_true v x) (clause_is_true v xs) (true_from_some v xs l k here)
]

pub some_from_true : (v : ℕ → Bool) (clause : List Literal) → clause_is_true v clause ≡ true → (l : Literal) × Contains clause l × (is_true v l ≡ true)
some_from_true v [] h = absurd (false≢true h)
some_from_true v (x ∷ xs) h = elim (or_cases (is_true v x) (clause_is_true v xs) h) [
  | inl e ↦ (x, Contains-first x xs, e)
  | inr e ↦ let found = some_from_true v xs e in (found.0, Contains-later x xs found.0 found.1, found.2)
]

pub one_from_true : (v : ℕ → Bool) (a : Literal) → clause_is_true v (a ∷ []) ≡ true → is_true v a ≡ true
one_from_true v a h = elim (or_cases (is_true v a) false h) [ inl e ↦ e | inr e ↦ absurd (false≢true e) ]

pub two_from_true : (v : ℕ → Bool) (a b : Literal) → clause_is_true v (a ∷ b ∷ []) ≡ true → (is_true v a ≡ true) ⊎ (is_true v b ≡ true)
two_from_true v a b h = elim (or_cases (is_true v a) (clause_is_true v (b ∷ [])) h) [ inl e ↦ inl e | inr e ↦ inr (one_from_true v b e) ]

pub three_from_true : (v : ℕ → Bool) (a b c : Literal) → clause_is_true v (a ∷ b ∷ c ∷ []) ≡ true → (is_true v a ≡ true) ⊎ ((is_true v b ≡ true) ⊎ (is_true v c ≡ true))
three_from_true v a b c h = elim (or_cases (is_true v a) (clause_is_true v (b ∷ c ∷ [])) h) [ inl e ↦ inl e | inr e ↦ inr (two_from_true v b c e) ]

pub true_from_three : (v : ℕ → Bool) (a b c : Literal) → (is_true v a ≡ true) ⊎ ((is_true v b ≡ true) ⊎ (is_true v c ≡ true)) → clause_is_true v (a ∷ b ∷ c ∷ []) ≡ true
true_from_three v a b c h = elim h [
  | inl e ↦ or_left (is_true v a) (clause_is_true v (b ∷ c ∷ [])) e
  | inr k ↦ or_right (is_true v a) (clause_is_true v (b ∷ c ∷ [])) (elim k [
    | inl e ↦ or_left (is_true v b) (clause_is_true v (c ∷ [])) e
    | inr e ↦ or_right (is_true v b) (clause_is_true v (c ∷ [])) (or_left (is_true v c) false e)
  ])
]

-- Each clause of a list is true.
abbrev pub AllTrue : (ℕ → Bool) → List (List Literal) → Type 0
AllTrue v clauses = (clause : List Literal) → Contains clauses clause → clause_is_true v clause ≡ true

-- the formula, by its three lists of clauses
pub record HasParts (q : Question) (v : ℕ → Bool) : Type 0 where
  pub choices : (p : ℕ) → p < cells_of q → clause_is_true v (map (λ c. yes (choice q p c)) (below (many_controls q))) ≡ true
  pub values : (p : ℕ) → p < cells_of q → AllTrue v (values_with q (defect_in q.array (place_of q.size p)) p)
  pub marks : (t : ℕ) → t < many_asked q → AllTrue v (marks_at q t)

pub parts_from_satisfied : (q : Question) (v : ℕ → Bool) → Satisfies v (encoding q) → HasParts q v
unfolding encoding
parts_from_satisfied q v h = record {
  choices = λ p within. h (clause p) (Contains-append_left (choices q) (values q ++ marks q) (clause p) (Contains-map clause (below (cells_of q)) p (Contains-below (cells_of q) p within)));
  values = λ p within c here. h c (Contains-append_right (choices q) (values q ++ marks q) c (Contains-append_left (values q) (marks q) c
      (Contains-flat_map (λ p. values_with q (defect_in q.array (place_of q.size p)) p) (below (cells_of q)) p c (Contains-below (cells_of q) p within) here)));
  marks = λ t within c here. h c (Contains-append_right (choices q) (values q ++ marks q) c (Contains-append_right (values q) (marks q) c
      (Contains-flat_map (marks_at q) (below (many_asked q)) t c (Contains-below (many_asked q) t within) here)));
} where
  clause : ℕ → List Literal
  clause p = map (λ c. yes (choice q p c)) (below (many_controls q))

pub satisfied_from_parts : (q : Question) (v : ℕ → Bool) → HasParts q v → Satisfies v (encoding q)
unfolding encoding
satisfied_from_parts q v h c here = elim (Contains-append_cases (choices q) (values q ++ marks q) c here) [
  | inl k ↦
      let found = map-Contains (λ p. map (λ c. yes (choice q p c)) (below (many_controls q))) (below (cells_of q)) c k in
      ap (clause_is_true v) (sym found.2) ∙ h.choices found.0 (below-Contains (cells_of q) found.0 found.1)
  | inr k ↦ elim (Contains-append_cases (values q) (marks q) c k) [
    | inl k ↦
        let found = flat_map-Contains (λ p. values_with q (defect_in q.array (place_of q.size p)) p) (below (cells_of q)) c k in
        h.values found.0 (below-Contains (cells_of q) found.0 found.1) c found.2
    | inr k ↦
        let found = flat_map-Contains (marks_at q) (below (many_asked q)) c k in
        h.marks found.0 (below-Contains (many_asked q) found.0 found.1) c found.2
  ]
]

-- At a cell the values are what each chosen control says, with the defect.
pub values_from_true : (q : Question) (v : ℕ → Bool) (d : Defect) (p c t : ℕ) → AllTrue v (values_with q d p) → c < many_controls q → v (choice q p c) ≡ true → t < many_asked q → v (value q p t) ≡ with_defect d (value_of (control_of q c) (asked_at q t))
values_from_true q v Sound p c t h below_c chosen below_t =
    let clause : List Literal = no (choice q p c) ∷ is_valued q (value_of (control_of q c) (asked_at q t)) p t ∷ [] in
    elim (two_from_true v (no (choice q p c)) (is_valued q (value_of (control_of q c) (asked_at q t)) p t) (h clause
    (Contains-flat_map (λ c. map (λ t. no (choice q p c) ∷ is_valued q (value_of (control_of q c) (asked_at q t)) p t ∷ []) (below (many_asked q))) (below (many_controls q)) c clause (Contains-below (many_controls q) c below_c)
    (Contains-map (λ t. no (choice q p c) ∷ is_valued q (value_of (control_of q c) (asked_at q t)) p t ∷ []) (below (many_asked q)) t (Contains-below (many_asked q) t below_t))))) [
      | inl e ↦ absurd (both_ways (v (choice q p c)) (not-true (v (choice q p c)) (sym (no-true v (choice q p c)) ∙ e)) chosen)
      | inr e ↦ valued_from_true v q (value_of (control_of q c) (asked_at q t)) p t e
    ]
values_from_true q v StuckOpen p c t h below_c chosen below_t =
    valued_from_true v q false p t (one_from_true v (is_valued q false p t) (h (is_valued q false p t ∷ []) (Contains-map (λ t. is_valued q false p t ∷ []) (below (many_asked q)) t (Contains-below (many_asked q) t below_t))))
values_from_true q v StuckClosed p c t h below_c chosen below_t =
    valued_from_true v q true p t (one_from_true v (is_valued q true p t) (h (is_valued q true p t ∷ []) (Contains-map (λ t. is_valued q true p t ∷ []) (below (many_asked q)) t (Contains-below (many_asked q) t below_t))))

-- The marks at assignment t are closed.
pub record IsClosed (q : Question) (v : ℕ → Bool) (t : ℕ) (through : Bool) (start : List ℕ) (next : ℕ → List ℕ) (end : List ℕ) : Type 0 where
  pub begins : (p : ℕ) → Contains start p → v (value q p t) ≡ through → v (mark q p t) ≡ true
  pub goes_on : (p r : ℕ) → p < cells_of q → Contains (next p) r → v (mark q p t) ≡ true → v (value q r t) ≡ through → v (mark q r t) ≡ true
  pub stops : (p : ℕ) → Contains end p → v (mark q p t) ≡ true → ⊥

-- a cell whose value lets through does not have the other value
not_through : (v : ℕ → Bool) (q : Question) (b : Bool) (p t : ℕ) → v (value q p t) ≡ b → is_true v (is_valued q (not b) p t) ≡ true → ⊥
not_through v q true p t h k = both_ways (v (value q p t)) (valued_from_true v q false p t k) h
not_through v q false p t h k = both_ways (v (value q p t)) h (valued_from_true v q true p t k)

through_or_not : (v : ℕ → Bool) (q : Question) (b : Bool) (p t : ℕ) → (v (value q p t) ≡ b) ⊎ (is_true v (is_valued q (not b) p t) ≡ true)
through_or_not v q true p t = elim (cases_Bool (v (value q p t))) [ inl e ↦ inl e | inr e ↦ inr (true_from_valued v q false p t e) ]
through_or_not v q false p t = elim (cases_Bool (v (value q p t))) [ inl e ↦ inr (true_from_valued v q true p t e) | inr e ↦ inl e ]

-- the three kinds of clauses
abbrev first : Question → ℕ → Bool → ℕ → List Literal
first q t through p = is_valued q (not through) p t ∷ yes (mark q p t) ∷ []

abbrev later : Question → ℕ → Bool → ℕ → ℕ → List Literal
later q t through p r = no (mark q p t) ∷ is_valued q (not through) r t ∷ yes (mark q r t) ∷ []

abbrev last : Question → ℕ → ℕ → List Literal
last q t p = no (mark q p t) ∷ []

abbrev steps : Question → ℕ → Bool → (ℕ → List ℕ) → List (List Literal)
steps q t through next = flat_map (λ p. map (later q t through p) (next p)) (below (cells_of q))

pub closed_from_true : (q : Question) (v : ℕ → Bool) (t : ℕ) (through : Bool) (start : List ℕ) (next : ℕ → List ℕ) (end : List ℕ) → AllTrue v (closed_marks q t through start next end) → IsClosed q v t through start next end
closed_from_true q v t through start next end h = record {
  begins = λ p here lets. elim (two_from_true v (is_valued q (not through) p t) (yes (mark q p t)) (h (first q t through p) (Contains-append_left (map (first q t through) start) (steps q t through next ++ map (last q t) end) (first q t through p) (Contains-map (first q t through) start p here)))) [
    | inl e ↦ absurd (not_through v q through p t lets e)
    | inr e ↦ sym (yes-true v (mark q p t)) ∙ e
  ];
  goes_on = λ p r within near marked lets. elim (three_from_true v (no (mark q p t)) (is_valued q (not through) r t) (yes (mark q r t)) (h (later q t through p r)
      (Contains-append_right (map (first q t through) start) (steps q t through next ++ map (last q t) end) (later q t through p r) (Contains-append_left (steps q t through next) (map (last q t) end) (later q t through p r)
      (Contains-flat_map (λ p. map (later q t through p) (next p)) (below (cells_of q)) p (later q t through p r) (Contains-below (cells_of q) p within) (Contains-map (later q t through p) (next p) r near)))))) [
        | inl e ↦ absurd (both_ways (v (mark q p t)) (not-true (v (mark q p t)) (sym (no-true v (mark q p t)) ∙ e)) marked)
        | inr k ↦ elim k [
          | inl e ↦ absurd (not_through v q through r t lets e)
          | inr e ↦ sym (yes-true v (mark q r t)) ∙ e
        ]
      ];
  stops = λ p here marked.
      let e = one_from_true v (no (mark q p t)) (h (last q t p) (Contains-append_right (map (first q t through) start) (steps q t through next ++ map (last q t) end) (last q t p) (Contains-append_right (steps q t through next) (map (last q t) end) (last q t p) (Contains-map (last q t) end p here)))) in
      both_ways (v (mark q p t)) (not-true (v (mark q p t)) (sym (no-true v (mark q p t)) ∙ e)) marked;
}

-- and where they are closed all these clauses are true
pub true_from_closed : (q : Question) (v : ℕ → Bool) (t : ℕ) (through : Bool) (start : List ℕ) (next : ℕ → List ℕ) (end : List ℕ) → IsClosed q v t through start next end → AllTrue v (closed_marks q t through start next end)
true_from_closed q v t through start next end h clause here = elim (Contains-append_cases (map (first q t through) start) (steps q t through next ++ map (last q t) end) clause here) [
  | inl k ↦ let found = map-Contains (first q t through) start clause k in ap (clause_is_true v) (sym found.2) ∙ begin found.0 found.1
  | inr k ↦ elim (Contains-append_cases (steps q t through next) (map (last q t) end) clause k) [
    | inl k ↦
        let found = flat_map-Contains (λ p. map (later q t through p) (next p)) (below (cells_of q)) clause k in
        let found' = map-Contains (later q t through found.0) (next found.0) clause found.2 in
        ap (clause_is_true v) (sym found'.2) ∙ go_on found.0 found'.0 (below-Contains (cells_of q) found.0 found.1) found'.1
    | inr k ↦ let found = map-Contains (last q t) end clause k in ap (clause_is_true v) (sym found.2) ∙ stop found.0 found.1
  ]
] where
  begin : (p : ℕ) → Contains start p → clause_is_true v (first q t through p) ≡ true
  begin p here = elim (through_or_not v q through p t) [
    | inl e ↦ true_from_some v (first q t through p) (yes (mark q p t)) (Contains-later (is_valued q (not through) p t) (yes (mark q p t) ∷ []) (yes (mark q p t)) (Contains-first (yes (mark q p t)) [])) (yes-true v (mark q p t) ∙ h.begins p here e)
    | inr e ↦ true_from_some v (first q t through p) (is_valued q (not through) p t) (Contains-first (is_valued q (not through) p t) (yes (mark q p t) ∷ [])) e
  ]

  go_on : (p r : ℕ) → p < cells_of q → Contains (next p) r → clause_is_true v (later q t through p r) ≡ true
  go_on p r within near = true_from_three v (no (mark q p t)) (is_valued q (not through) r t) (yes (mark q r t)) (elim (cases_Bool (v (mark q p t))) [
    | inl marked ↦ inr (elim (through_or_not v q through r t) [
      | inl e ↦ inr (yes-true v (mark q r t) ∙ h.goes_on p r within near marked e)
      | inr e ↦ inl e
    ])
    | inr unmarked ↦ inl (no-true v (mark q p t) ∙ not_from_false (v (mark q p t)) unmarked)
  ])

  stop : (p : ℕ) → Contains end p → clause_is_true v (last q t p) ≡ true
  stop p here = true_from_some v (last q t p) (no (mark q p t)) (Contains-first (no (mark q p t)) []) (no-true v (mark q p t) ∙ not_from_false (v (mark q p t)) (false_from_ne_true (v (mark q p t)) (h.stops p here)))

-- Where the values are what each chosen control says, with the defect, these clauses are true.
pub true_from_values : (q : Question) (v : ℕ → Bool) (d : Defect) (p : ℕ) → ((c t : ℕ) → c < many_controls q → v (choice q p c) ≡ true → t < many_asked q → v (value q p t) ≡ with_defect d (value_of (control_of q c) (asked_at q t)))
    → ((c : ℕ) × (c < many_controls q) × (v (choice q p c) ≡ true)) → AllTrue v (values_with q d p)
true_from_values q v Sound p h some clause here =
    let found = flat_map-Contains (λ c. map (λ t. no (choice q p c) ∷ is_valued q (value_of (control_of q c) (asked_at q t)) p t ∷ []) (below (many_asked q))) (below (many_controls q)) clause here in
    let found' = map-Contains (λ t. no (choice q p found.0) ∷ is_valued q (value_of (control_of q found.0) (asked_at q t)) p t ∷ []) (below (many_asked q)) clause found.2 in
    ap (clause_is_true v) (sym found'.2) ∙ go found.0 found'.0 (below-Contains (many_controls q) found.0 found.1) (below-Contains (many_asked q) found'.0 found'.1) where
      go : (c t : ℕ) → c < many_controls q → t < many_asked q → clause_is_true v (no (choice q p c) ∷ is_valued q (value_of (control_of q c) (asked_at q t)) p t ∷ []) ≡ true
      go c t below_c below_t = elim (cases_Bool (v (choice q p c))) [
        | inl chosen ↦ or_right (is_true v (no (choice q p c))) (clause_is_true v (is_valued q (value_of (control_of q c) (asked_at q t)) p t ∷ []))
            (or_left (is_true v (is_valued q (value_of (control_of q c) (asked_at q t)) p t)) false (true_from_valued v q (value_of (control_of q c) (asked_at q t)) p t (h c t below_c chosen below_t)))
        | inr e ↦ or_left (is_true v (no (choice q p c))) (clause_is_true v (is_valued q (value_of (control_of q c) (asked_at q t)) p t ∷ [])) (no-true v (choice q p c) ∙ not_from_false (v (choice q p c)) e)
      ]
true_from_values q v StuckOpen p h some clause here =
    let found = map-Contains (λ t. is_valued q false p t ∷ []) (below (many_asked q)) clause here in
    ap (clause_is_true v) (sym found.2) ∙ or_left (is_true v (is_valued q false p found.0)) false (true_from_valued v q false p found.0 (h some.0 found.0 some.1 some.2 (below-Contains (many_asked q) found.0 found.1)))
true_from_values q v StuckClosed p h some clause here =
    let found = map-Contains (λ t. is_valued q true p t ∷ []) (below (many_asked q)) clause here in
    ap (clause_is_true v) (sym found.2) ∙ or_left (is_true v (is_valued q true p found.0)) false (true_from_valued v q true p found.0 (h some.0 found.0 some.1 some.2 (below-Contains (many_asked q) found.0 found.1)))
