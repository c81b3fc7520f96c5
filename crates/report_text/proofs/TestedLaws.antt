-- Facts that hold or do not.
use Rattle.std.proofs.Common.{◌≡◌, ◌≢◌, ℕ, suc, zero, ◌≤◌, ◌<◌, ◌⊎◌, inl, inr, Bool, true, false, eqb, List, [], ◌∷◌, length, map, refl, sym, ap, ◌∙◌, subst, arith, codes}
use Rattle.std.specs.Prelude.{All}
use Rattle.std.proofs.lemmas.Bool.{eqb-true, eqb-false, cases_lt}
use Rattle.std.proofs.lemmas.List.Elements.{All-nil, All-cons, All-head, All-tail}

abbrev pub Tested : Type 0 → Type 0
Tested P = P ⊎ (P → ⊥)

pub tested_both : (P Q : Type 0) → Tested P → Tested Q → Tested (P × Q)
tested_both P Q (inl p) (inl q) = inl (p, q)
tested_both P Q (inl p) (inr q) = inr (λ h. q h.1)
tested_both P Q (inr p) q = inr (λ h. p h.0)

pub tested_as : (P Q : Type 0) → (P → Q) → (Q → P) → Tested P → Tested Q
tested_as P Q there back (inl p) = inl (there p)
tested_as P Q there back (inr p) = inr (λ q. p (back q))

pub tested_eq : (m n : ℕ) → Tested (m ≡ n)
tested_eq m n = elim (eqb m n) as (λ t. eqb m n ≡ t → Tested (m ≡ n)) [ true ↦ λ e. inl (eqb-true m n e) | false ↦ λ e. inr (eqb-false m n e) ] refl

pub tested_lt : (m n : ℕ) → Tested (m < n)
tested_lt m n = elim (cases_lt m n) [ inl h ↦ inl h | inr h ↦ inr (λ l. omega (arith, h, l)) ]

pub tested_le : (m n : ℕ) → Tested (m ≤ n)
tested_le m n = elim (cases_lt n m) [ inl h ↦ inr (λ l. omega (arith, h, l)) | inr h ↦ inl h ]

pub tested_list : (xs ys : List ℕ) → Tested (xs ≡ ys)
tested_list [] [] = inl refl
tested_list [] (y ∷ ys) = inr (λ e. absurd cc)
tested_list (x ∷ xs) [] = inr (λ e. absurd cc)
tested_list (x ∷ xs) (y ∷ ys) = elim (tested_eq x y) [
  | inl head ↦ elim (tested_list xs ys) [ inl tail ↦ inl (λ i. head i ∷ tail i) | inr none ↦ inr (λ e. none cc) ]
  | inr none ↦ inr (λ e. none cc)
]

pub tested_all : {X : Type 0} (P : X → Type 0) → ((x : X) → Tested (P x)) → (xs : List X) → Tested (All P xs)
tested_all P test [] = inl (All-nil P)
tested_all P test (x ∷ xs) = elim (test x) [
  | inl head ↦ elim (tested_all P test xs) [ inl tail ↦ inl (All-cons P x xs head tail) | inr none ↦ inr (λ h. none (All-tail P x xs h)) ]
  | inr none ↦ inr (λ h. none (All-head P x xs h))
]

-- some number up to a bound
pub some_up_to : (P : ℕ → Type 0) → ((n : ℕ) → Tested (P n)) → (most : ℕ) → Tested ((n : ℕ) × (n ≤ most) × P n)
some_up_to P test zero = elim (test 0) [
  | inl h ↦ inl (0, omega arith, h)
  | inr none ↦ inr (λ (n, few, h). none (let is : n ≡ 0 = omega (arith, few) in subst P is h))
]
some_up_to P test (suc most) = elim (test (suc most)) [
  | inl h ↦ inl (suc most, omega arith, h)
  | inr none ↦ elim (some_up_to P test most) [
    | inl (n, few, h) ↦ inl (n, omega (arith, few), h)
    | inr less ↦ inr (λ (n, few, h). elim (cases_lt n (suc most)) [
      | inl below ↦ less (n, omega (arith, below), h)
      | inr above ↦ none (let is : n ≡ suc most = omega (arith, few, above) in subst P is h)
    ])
  ]
]
