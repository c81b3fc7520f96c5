-- What is so or is not so, and is found out.
use Rattle.std.proofs.Common.{◌≡◌, ◌⊎◌, ℕ, zero, suc, ◌<◌, inl, inr, List, [], ◌∷◌, refl, sym, ap, subst, arith, Bool, true, false, true≢false, Some, None, get_or}
use Rattle.std.proofs.lemmas.Bool.{cases_order}
use Rattle.std.proofs.lemmas.List.Elements.{All-nil, All-cons, All-head, All-tail}
use Rattle.std.specs.Prelude.{All}
use Rattle.std.specs.declared.option.Option.{Option}
use Rattle.cube_core.proofs.Tools.{below_or_above}

-- it is so, or it is not
abbrev pub IsDecided : Type 0 → Type 0
IsDecided P = P ⊎ (P → ⊥)

pub both_or_not : {P Q : Type 0} → IsDecided P → IsDecided Q → IsDecided (P × Q)
both_or_not p q = elim p [
  | inl h ↦ elim q [ inl k ↦ inl (h, k) | inr not ↦ inr (λ both. not both.1) ]
  | inr not ↦ inr (λ both. not both.0)
]

pub true_or_not : (b : Bool) → IsDecided (b ≡ true)
true_or_not true = inl refl
true_or_not false = inr (λ e. true≢false (sym e))

pub less_or_not : (a b : ℕ) → IsDecided (a < b)
less_or_not a b = elim (below_or_above a b) [ inl less ↦ inl less | inr more ↦ inr (λ less. omega (arith, less, more)) ]

pub same_or_not : (a b : ℕ) → IsDecided (a ≡ b)
same_or_not a b = elim (cases_order a b) [
  | inl same ↦ inl same
  | inr other ↦ elim other [ inl less ↦ inr (λ e. omega (arith, less, e)) | inr more ↦ inr (λ e. omega (arith, more, e)) ]
]

abbrev rest_of : {X : Type 0} → List X → List X
rest_of [] = []
rest_of (x ∷ xs) = xs

pub lists_or_not : {X : Type 0} → ((a b : X) → IsDecided (a ≡ b)) → (xs ys : List X) → IsDecided (xs ≡ ys)
lists_or_not decide [] [] = inl refl
lists_or_not decide [] (y ∷ ys) = inr (λ e. cc)
lists_or_not decide (x ∷ xs) [] = inr (λ e. cc)
lists_or_not decide (x ∷ xs) (y ∷ ys) = elim (decide x y) [
  | inr not ↦ inr (λ e. not (ap (λ l. get_or l 0 x) e))
  | inl first ↦ elim (lists_or_not decide xs ys) [
    | inr not ↦ inr (λ e. not (ap rest_of e))
    | inl rest ↦ inl (λ i. first i ∷ rest i)
  ]
]

pub given_or_not : (o : Option (List ℕ)) (xs : List ℕ) → IsDecided (o ≡ Some xs)
given_or_not None xs = inr (λ e. cc)
given_or_not (Some ys) xs = elim (lists_or_not same_or_not ys xs) [ inl same ↦ inl (ap Some same) | inr not ↦ inr (λ e. not (let same : ys ≡ xs = cc in same)) ]

pub some_or_none : {X : Type 0} (o : Option X) → ((x : X) × (o ≡ Some x)) ⊎ (o ≡ None)
some_or_none None = inr refl
some_or_none (Some x) = inl (x, refl)

pub all_or_not : {X : Type 0} (P : X → Type 0) → ((x : X) → IsDecided (P x)) → (xs : List X) → IsDecided (All P xs)
all_or_not P decide [] = inl (All-nil P)
all_or_not P decide (x ∷ xs) = elim (decide x) [
  | inr not ↦ inr (λ all. not (All-head P x xs all))
  | inl here ↦ elim (all_or_not P decide xs) [
    | inr not ↦ inr (λ all. not (All-tail P x xs all))
    | inl later ↦ inl (All-cons P x xs here later)
  ]
]

-- what holds below a number holds below the next, where it holds of the number
and_here : (P : ℕ → Type 0) (n : ℕ) → ((k : ℕ) → k < n → P k) → P n → (k : ℕ) → k < suc n → P k
and_here P n below here k less = elim (below_or_above k n) [
  | inl lt ↦ below k lt
  | inr ge ↦ let same : n ≡ k = omega (arith, ge, less) in subst P same here
]

-- It is so of this number, and of no smaller one.
pub record IsFirst (P : ℕ → Type 0) (x : ℕ) : Type 0 where
  pub here : P x
  pub none : (y : ℕ) → y < x → P y → ⊥

-- it is so of no number below n, or there is a first number
pub none_or_first : (P : ℕ → Type 0) → ((k : ℕ) → IsDecided (P k)) → (n : ℕ) → ((k : ℕ) → k < n → P k → ⊥) ⊎ ((x : ℕ) × IsFirst P x)
none_or_first P decide zero = inl (λ k less. absurd (omega (arith, less)))
none_or_first P decide (suc n) = elim (none_or_first P decide n) [
  | inr first ↦ inr first
  | inl none ↦ elim (decide n) [
    | inl here ↦ inr (n, record { here = here; none = none })
    | inr not ↦ inl (and_here (λ k. P k → ⊥) n none not)
  ]
]
