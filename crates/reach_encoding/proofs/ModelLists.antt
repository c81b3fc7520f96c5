-- Facts of each element of a list that is made from the numbers below n, and choices for these numbers.
use Rattle.std.proofs.Common.{ℕ, ◌<◌, ◌≤◌, ◌⊎◌, inl, inr, List, [], ◌∷◌, map, arith}
use Rattle.std.specs.List.{All, flat_map, range_with_len}
use Rattle.std.proofs.lemmas.Bool.{cases_lt}
use Rattle.std.proofs.lemmas.List.Elements.{All-nil, All-append, All-head, All-tail, All-map, All-weaker}
use Rattle.std.proofs.lemmas.List.FromFn.{length-range_with_len, get_or-range_with_len}

pub All-below : (n : ℕ) → All (λ i. i < n) (range_with_len 0 n)
All-below n i d within =
    let long = length-range_with_len 0 n in
    let below : i < n = omega arith in
    let at = get_or-range_with_len 0 n i d below in
    omega arith

pub All-map_of : {X Y : Type 0} (P : X → Type 0) (Q : Y → Type 0) (f : Y → X) → ((y : Y) → Q y → P (f y)) → (ys : List Y) → All Q ys → All P (map f ys)
All-map_of P Q f each ys all = All-map P f ys (All-weaker Q (λ y. P (f y)) each ys all)

pub All-flat_map : {X Y : Type 0} (P : X → Type 0) (Q : Y → Type 0) (f : Y → List X) → ((y : Y) → Q y → All P (f y)) → (ys : List Y) → All Q ys → All P (flat_map f ys)
All-flat_map P Q f each [] all = All-nil P
All-flat_map P Q f each (y ∷ ys) all = All-append P (f y) (flat_map f ys) (each y (All-head Q y ys all)) (All-flat_map P Q f each ys (All-tail Q y ys all))

pub All-map_below : {X : Type 0} (P : X → Type 0) (f : ℕ → X) (n : ℕ) → ((i : ℕ) → i < n → P (f i)) → All P (map f (range_with_len 0 n))
All-map_below P f n each = All-map_of P (λ i. i < n) f each (range_with_len 0 n) (All-below n)

pub All-flat_map_below : {X : Type 0} (P : X → Type 0) (f : ℕ → List X) (n : ℕ) → ((i : ℕ) → i < n → All P (f i)) → All P (flat_map f (range_with_len 0 n))
All-flat_map_below P f n each = All-flat_map P (λ i. i < n) f each (range_with_len 0 n) (All-below n)

-- where each number below n has something, some function gives it
pub choose_below : (n : ℕ) (A : Type 0) (Q : ℕ → A → Type 0) → A → ((i : ℕ) → i < n → (a : A) × Q i a) → (f : ℕ → A) × ((i : ℕ) → i < n → Q i (f i))
choose_below n A Q d each = (f, kept) where
  pick : (i : ℕ) → (i < n) ⊎ (n ≤ i) → A
  pick i (inl below) = (each i below).0
  pick i (inr past) = d

  picked : (i : ℕ) (side : (i < n) ⊎ (n ≤ i)) → i < n → Q i (pick i side)
  picked i (inl below) h = (each i below).1
  picked i (inr past) h = absurd (omega arith)

  f : ℕ → A
  f i = pick i (cases_lt i n)

  kept : (i : ℕ) → i < n → Q i (f i)
  kept i h = picked i (cases_lt i n) h
