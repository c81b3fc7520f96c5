-- Lists of rising numbers, and flags beside them.
use Rattle.std.proofs.Common.{◌≡◌, ℕ, zero, suc, ◌==◌, ◌<◌, ◌≤◌, Bool, true, false, cond, ◌||◌, not, ◌&&◌, List, [], ◌∷◌, ◌++◌, length, get_or, refl, sym, ap, ◌∙◌, arith, inl, inr, Err}
use Rattle.std.specs.List.{list_any}
use Rattle.std.specs.FinSet as set
use Rattle.std.specs.FinMap.{nat_cmp-IsAntisymmetric}
use Rattle.std.specs.Cmp.{unsigned_tied}
use Rattle.std.specs.Ordering.{nat_cmp, eq_by_cmp}
use Rattle.std.proofs.lemmas.Cmp.{nat_cmp_total}
use Rattle.std.proofs.lemmas.Bool.{cases_eq, eq-eqb, ne_eqb}
use Rattle.std.proofs.lemmas.List.Sorted.{searched}
use Rattle.std.specs.List.Sorted.{IsBinarySearchResult}
use Rattle.std.proofs.Math.ListN.{set, replicate}
use Rattle.std.proofs.lemmas.Bool.{cases_lt}
use Rattle.lrat_replay.specs.Store.{AreRising, IsAbsent, flagged}

pub rising_above : (n : ℕ) (ids : List ℕ) (i : ℕ) → AreRising n ids → i < length ids → n < get_or ids i 0
rising_above n [] i h k = absurd (omega arith)
rising_above n (id ∷ ids) zero h k = h.0
rising_above n (id ∷ ids) (suc i) h k = let r = rising_above id ids i h.1 (omega arith) in let first = h.0 in omega arith

pub rising_order : (n : ℕ) (ids : List ℕ) (i j : ℕ) → AreRising n ids → i ≤ j → j < length ids → get_or ids i 0 ≤ get_or ids j 0
rising_order n [] i j h k m = absurd (omega arith)
rising_order n (id ∷ ids) zero zero h k m = omega arith
rising_order n (id ∷ ids) zero (suc j) h k m = let r = rising_above id ids j h.1 (omega arith) in omega arith
rising_order n (id ∷ ids) (suc i) zero h k m = absurd (omega arith)
rising_order n (id ∷ ids) (suc i) (suc j) h k m = rising_order id ids i j h.1 (omega arith) (omega arith)

-- what a search did not find is nowhere
pub not_found : (ids : List ℕ) (id place : ℕ) → AreRising 0 ids → IsBinarySearchResult (λ y. nat_cmp y id) ids (Err place) → IsAbsent ids id
not_found ids id place h found k within e =
    let s = searched ids id (Err place) found (λ i j le lt. rising_order 0 ids i j h le lt) in
    elim (cases_lt k place) [
      | inl below ↦ let t = s.1 k below in omega arith
      | inr from ↦ let t = s.2 k from within in omega arith
    ]

-- a number is deleted where the flag at its place is set
abbrev pub flagged_has : List ℕ → List Bool → ℕ → Bool
flagged_has ids flags id = list_any (λ y. y == id) (flagged ids flags)

flagged_first : (id : ℕ) (ids : List ℕ) (flag : Bool) (flags : List Bool) (q : ℕ) → flagged_has (id ∷ ids) (flag ∷ flags) q ≡ ((flag && (id == q)) || flagged_has ids flags q)
flagged_first id ids true flags q = refl
flagged_first id ids false flags q = refl

pub flagged_below : (n : ℕ) (ids : List ℕ) (flags : List Bool) (q : ℕ) → AreRising n ids → q ≤ n → flagged_has ids flags q ≡ false
flagged_below n [] flags q h k = refl
flagged_below n (id ∷ ids) [] q h k = refl
flagged_below n (id ∷ ids) (flag ∷ flags) q h k =
    let first = h.0 in
    let other : id ≡ q → ⊥ = λ e. omega arith in
    flagged_first id ids flag flags q ∙ shape flag (id == q) (flagged_has ids flags q) (ne_eqb id q other) (flagged_below id ids flags q h.1 (omega arith)) where
      shape : (a b c : Bool) → b ≡ false → c ≡ false → ((a && b) || c) ≡ false
      shape a b c e f = grind arith

pub flagged_at : (n : ℕ) (ids : List ℕ) (flags : List Bool) (k : ℕ) → AreRising n ids → k < length ids → flagged_has ids flags (get_or ids k 0) ≡ get_or flags k false
flagged_at n [] flags k h l = absurd (omega arith)
flagged_at n (id ∷ ids) [] k h l = refl
flagged_at n (id ∷ ids) (flag ∷ flags) zero h l =
    flagged_first id ids flag flags id ∙ shape flag (id == id) (flagged_has ids flags id) (eq-eqb id id refl) (flagged_below id ids flags id h.1 (omega arith)) where
      shape : (a b c : Bool) → b ≡ true → c ≡ false → ((a && b) || c) ≡ a
      shape a b c e f = grind arith
flagged_at n (id ∷ ids) (flag ∷ flags) (suc k) h l =
    let r = rising_above id ids k h.1 (omega arith) in
    let other : id ≡ get_or ids k 0 → ⊥ = λ e. omega arith in
    flagged_first id ids flag flags (get_or ids k 0) ∙ shape flag (id == get_or ids k 0) (flagged_has ids flags (get_or ids k 0)) (ne_eqb id (get_or ids k 0) other)
    ∙ flagged_at id ids flags k h.1 (omega arith) where
      shape : (a b c : Bool) → b ≡ false → ((a && b) || c) ≡ c
      shape a b c e = grind arith

flagged_set : (ids : List ℕ) (flags : List Bool) (k : ℕ) (q : ℕ) → k < length ids → k < length flags → flagged_has ids (set flags k true) q ≡ ((get_or ids k 0 == q) || flagged_has ids flags q)
flagged_set [] flags k q h l = absurd (omega arith)
flagged_set (id ∷ ids) [] k q h l = absurd (omega arith)
flagged_set (id ∷ ids) (flag ∷ flags) zero q h l =
    flagged_first id ids true flags q ∙ shape flag (id == q) (flagged_has ids flags q) ∙ sym (ap (λ b. (id == q) || b) (flagged_first id ids flag flags q)) where
      shape : (a b c : Bool) → ((true && b) || c) ≡ (b || ((a && b) || c))
      shape a b c = grind arith
flagged_set (id ∷ ids) (flag ∷ flags) (suc k) q h l =
    flagged_first id ids flag (set flags k true) q ∙ ap (λ b. (flag && (id == q)) || b) (flagged_set ids flags k q (omega arith) (omega arith))
    ∙ shape (flag && (id == q)) (get_or ids k 0 == q) (flagged_has ids flags q) ∙ sym (ap (λ b. (get_or ids k 0 == q) || b) (flagged_first id ids flag flags q)) where
      shape : (a b c : Bool) → (a || (b || c)) ≡ (b || (a || c))
      shape a b c = grind arith

flagged_unset : (n : ℕ) (ids : List ℕ) (flags : List Bool) (k : ℕ) (q : ℕ) → AreRising n ids → k < length ids → flagged_has ids (set flags k false) q ≡ (not (get_or ids k 0 == q) && flagged_has ids flags q)
flagged_unset n [] flags k q r h = absurd (omega arith)
flagged_unset n (id ∷ ids) [] k q r h = shape (not (get_or (id ∷ ids) k 0 == q)) where
  shape : (a : Bool) → false ≡ (a && false)
  shape a = grind arith
flagged_unset n (id ∷ ids) (flag ∷ flags) zero q r h =
    flagged_first id ids false flags q ∙ elim (cases_eq id q) [
      | inl e ↦ flagged_below id ids flags q r.1 (omega arith) ∙ sym (ap (λ b. not b && flagged_has (id ∷ ids) (flag ∷ flags) q) (eq-eqb id q e))
      | inr ne ↦ sym (ap (λ b. not b && flagged_has (id ∷ ids) (flag ∷ flags) q) (ne_eqb id q ne) ∙ flagged_first id ids flag flags q ∙ shape flag (id == q) (flagged_has ids flags q) (ne_eqb id q ne))
    ] where
      shape : (a b c : Bool) → b ≡ false → ((a && b) || c) ≡ c
      shape a b c e = grind arith
flagged_unset n (id ∷ ids) (flag ∷ flags) (suc k) q r h =
    let above = rising_above id ids k r.1 (omega arith) in
    flagged_first id ids flag (set flags k false) q ∙ ap (λ b. (flag && (id == q)) || b) (flagged_unset id ids flags k q r.1 (omega arith))
    ∙ elim (cases_eq id q) [
      | inl e ↦
          let other : get_or ids k 0 ≡ q → ⊥ = λ f. omega arith in
          shape_in (flag && (id == q)) (get_or ids k 0 == q) (flagged_has ids flags q) (ne_eqb (get_or ids k 0) q other) ∙ sym (ap (λ b. not (get_or ids k 0 == q) && b) (flagged_first id ids flag flags q))
      | inr ne ↦ shape_out flag (id == q) (get_or ids k 0 == q) (flagged_has ids flags q) (ne_eqb id q ne) ∙ sym (ap (λ b. not (get_or ids k 0 == q) && b) (flagged_first id ids flag flags q))
    ] where
      shape_in : (a b c : Bool) → b ≡ false → (a || (not b && c)) ≡ (not b && (a || c))
      shape_in a b c e = grind arith

      shape_out : (f a b c : Bool) → a ≡ false → ((f && a) || (not b && c)) ≡ (not b && ((f && a) || c))
      shape_out f a b c e = grind arith

-- the set of deleted numbers
abbrev pub gone_of : List ℕ → List Bool → set.FinSet nat_cmp
gone_of ids flags = set.from_list (flagged ids flags)

pub gone_has : (ids : List ℕ) (flags : List Bool) (q : ℕ) → set.contains (gone_of ids flags) q ≡ flagged_has ids flags q
gone_has ids flags q = set.contains-from_list_nat (flagged ids flags) q

turned : (a b : ℕ) → eq_by_cmp nat_cmp a b ≡ (b == a)
turned a b = unsigned_tied a b ∙ elim (cases_eq a b) [
  | inl e ↦ eq-eqb a b e ∙ sym (eq-eqb b a (sym e))
  | inr ne ↦ ne_eqb a b ne ∙ sym (ne_eqb b a (λ e. ne (sym e)))
]

pub gone_set : (ids : List ℕ) (flags : List Bool) (k : ℕ) → k < length ids → k < length flags → gone_of ids (set flags k true) ≡ set.insert (gone_of ids flags) (get_or ids k 0)
gone_set ids flags k h l = set.same_set nat_cmp_total nat_cmp-IsAntisymmetric _ _ (λ q.
    gone_has ids (set flags k true) q ∙ flagged_set ids flags k q h l
    ∙ sym (set.contains-insert nat_cmp_total (gone_of ids flags) (get_or ids k 0) q ∙ (λ i. turned q (get_or ids k 0) i || gone_has ids flags q i)))

pub gone_unset : (ids : List ℕ) (flags : List Bool) (k : ℕ) → AreRising 0 ids → k < length ids → gone_of ids (set flags k false) ≡ set.remove (gone_of ids flags) (get_or ids k 0)
gone_unset ids flags k r h = set.same_set nat_cmp_total nat_cmp-IsAntisymmetric _ _ (λ q.
    gone_has ids (set flags k false) q ∙ flagged_unset 0 ids flags k q r h
    ∙ sym (set.contains-remove nat_cmp_total (gone_of ids flags) (get_or ids k 0) q ∙ (λ i. not (turned q (get_or ids k 0) i) && gone_has ids flags q i)))

-- one that was not there is put in and taken out
pub remove-insert : (s : set.FinSet nat_cmp) (id : ℕ) → set.contains s id ≡ false → set.remove (set.insert s id) id ≡ s
remove-insert s id e = set.same_set nat_cmp_total nat_cmp-IsAntisymmetric _ _ (λ q.
    set.contains-remove nat_cmp_total (set.insert s id) id q ∙ (λ i. not (turned q id i) && (set.contains-insert nat_cmp_total s id q ∙ ap (λ b. b || set.contains s q) (turned q id)) i)
    ∙ elim (cases_eq id q) [
      | inl f ↦ (λ i. not (eq-eqb id q f i) && ((id == q) || set.contains s q)) ∙ sym e ∙ ap (set.contains s) f
      | inr ne ↦ (λ i. not (ne_eqb id q ne i) && (ne_eqb id q ne i || set.contains s q))
    ])

-- one more number, with its flag not set
pub flagged-push : (ids : List ℕ) (flags : List Bool) (id : ℕ) → length flags ≡ length ids → flagged (ids ++ id ∷ []) (flags ++ false ∷ []) ≡ flagged ids flags
flagged-push [] [] id e = refl
flagged-push [] (flag ∷ flags) id e = absurd (omega arith)
flagged-push (x ∷ ids) [] id e = absurd (omega arith)
flagged-push (x ∷ ids) (flag ∷ flags) id e = ap (λ r. cond flag (x ∷ r) r) (flagged-push ids flags id (omega arith))

-- no flag is set
pub flagged-none : (ids : List ℕ) (n : ℕ) → flagged ids (replicate n false) ≡ []
flagged-none [] n = refl
flagged-none (id ∷ ids) zero = refl
flagged-none (id ∷ ids) (suc n) = flagged-none ids n
