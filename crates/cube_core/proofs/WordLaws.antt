-- What operations on words of bits do to the sets that the words stand for.
use Rattle.std.proofs.Common.{◌≡◌, ℕ, ◌+◌, ◌-◌, ◌*◌, ◌/◌, ◌%◌, ◌^◌, ◌<◌, ◌≤◌, inl, inr, Bool, true, false, not, ◌&&◌, ◌||◌, List, refl, sym, ap, ap₂, ◌∙◌, arith, nat_eq, nat_lt, bit_and, bit_or, get_or, w64}
use Rattle.std.proofs.lemmas.Bool.Decides.{nat_tests}
use Rattle.std.proofs.lemmas.Bool.{cases_lt, lt-ltb, le-ltb}
use Rattle.std.proofs.lemmas.Nat.{one_shl}
use Rattle.std.proofs.lemmas.Nat.Bits.{bit_at-lt, bit_at_and, bit_at_or, bit_at_not, bit_at_ones, bit_at_ones_above}
use Rattle.std.specs.Int.{bit_not}
use Rattle.std.proofs.Math.Pow.{pow_mono}
use Rattle.std.specs.Cmp.{nat_cmp_total}
use Rattle.std.specs.FinSet as sets
use Rattle.cube_core.specs.Assignment.{bit}
use Rattle.cube_core.specs.Members.{Assignments, in_words, members_of, all_of}
use Rattle.cube_core.proofs.MembersLaws.{contains-members_of, contains-passing_below}

-- one bit of what `|`, `&` and `!` give
pub bit-or : (a b i : ℕ) → bit (bit_or a b) i ≡ (bit a i || bit b i)
bit-or a b i =
    let one = bit_at-lt a i in
    let other = bit_at-lt b i in
    ap (λ n. nat_eq n 1) (bit_at_or a b i) ∙ grind (arith, nat_tests)

pub bit-and : (a b i : ℕ) → bit (bit_and a b) i ≡ (bit a i && bit b i)
bit-and a b i =
    let one = bit_at-lt a i in
    let other = bit_at-lt b i in
    ap (λ n. nat_eq n 1) (bit_at_and a b i) ∙ grind (arith, nat_tests)

pub bit-not : (a i : ℕ) → a < 2 ^ 64 → i < 64 → bit (bit_not w64 a) i ≡ not (bit a i)
bit-not a i fits within =
    let one = bit_at-lt a i in
    ap (λ n. nat_eq n 1) (bit_at_not w64 a i fits within) ∙ grind (arith, nat_tests)

pub contains-members_of_below : (words : List ℕ) (x : ℕ) → x < 1024 → sets.contains (members_of words) x ≡ in_words words x
contains-members_of_below words x below = contains-members_of words x ∙ ap (λ b. b && in_words words x) (lt-ltb x 1024 below)

pub contains-members_of_above : (words : List ℕ) (x : ℕ) → 1024 ≤ x → sets.contains (members_of words) x ≡ false
contains-members_of_above words x above = contains-members_of words x ∙ ap (λ b. b && in_words words x) (le-ltb x 1024 above)

-- words whose bits are the members of a set stand for that set
pub members_of-same : (words : List ℕ) (s : Assignments) → ((x : ℕ) → x < 1024 → in_words words x ≡ sets.contains s x)
    → ((x : ℕ) → 1024 ≤ x → sets.contains s x ≡ false) → members_of words ≡ s
members_of-same words s within past = sets.same_set nat_cmp_total sets.nat_cmp-IsAntisymmetric _ _ (λ x. elim (cases_lt x 1024) [
  | inl below ↦ contains-members_of_below words x below ∙ within x below
  | inr above ↦ contains-members_of_above words x above ∙ sym (past x above)
])

-- words that come from two tables bit by bit
combined : (f : Bool → Bool → Bool) → f false false ≡ false → (a b words : List ℕ) (s : Assignments)
    → ((x : ℕ) → sets.contains s x ≡ f (sets.contains (members_of a) x) (sets.contains (members_of b) x))
    → ((x : ℕ) → x < 1024 → in_words words x ≡ f (in_words a x) (in_words b x)) → members_of words ≡ s
combined f none a b words s members bits = members_of-same words s
    (λ x below. bits x below ∙ ap₂ f (sym (contains-members_of_below a x below)) (sym (contains-members_of_below b x below)) ∙ sym (members x))
    (λ x above. members x ∙ ap₂ f (contains-members_of_above a x above) (contains-members_of_above b x above) ∙ none)

pub members_of-or : (a b words : List ℕ) → ((k : ℕ) → k < 16 → get_or words k 0 ≡ bit_or (get_or a k 0) (get_or b k 0))
    → members_of words ≡ sets.union (members_of a) (members_of b)
members_of-or a b words each = combined (λ p q. p || q) refl a b words _ (sets.contains-union nat_cmp_total (members_of a) (members_of b))
    (λ x below. ap (λ w. bit w (x % 64)) (each (x / 64) (omega arith)) ∙ bit-or (get_or a (x / 64) 0) (get_or b (x / 64) 0) (x % 64))

pub members_of-and : (a b words : List ℕ) → ((k : ℕ) → k < 16 → get_or words k 0 ≡ bit_and (get_or a k 0) (get_or b k 0))
    → members_of words ≡ sets.intersection (members_of a) (members_of b)
members_of-and a b words each = combined (λ p q. p && q) refl a b words _ (sets.contains-intersection nat_cmp_total (members_of a) (members_of b))
    (λ x below. ap (λ w. bit w (x % 64)) (each (x / 64) (omega arith)) ∙ bit-and (get_or a (x / 64) 0) (get_or b (x / 64) 0) (x % 64))

pub members_of-minus : (a b words : List ℕ) → ((k : ℕ) → k < 16 → get_or b k 0 < 2 ^ 64)
    → ((k : ℕ) → k < 16 → get_or words k 0 ≡ bit_and (get_or a k 0) (bit_not w64 (get_or b k 0)))
    → members_of words ≡ sets.difference (members_of a) (members_of b)
members_of-minus a b words fits each = combined (λ p q. p && not q) refl a b words _ (sets.contains-difference nat_cmp_total (members_of a) (members_of b))
    (λ x below. ap (λ w. bit w (x % 64)) (each (x / 64) (omega arith)) ∙ bit-and (get_or a (x / 64) 0) (bit_not w64 (get_or b (x / 64) 0)) (x % 64)
    ∙ ap (λ q. in_words a x && q) (bit-not (get_or b (x / 64) 0) (x % 64) (fits (x / 64) (omega arith)) (omega arith)))

pub contains-all_of : (inputs x : ℕ) → sets.contains (all_of inputs) x ≡ nat_lt x (2 ^ inputs)
unfolding all_of
contains-all_of inputs x = contains-passing_below (λ _. true) (2 ^ inputs) x ∙ and_true (nat_lt x (2 ^ inputs))
  where
    and_true : (b : Bool) → (b && true) ≡ b
    and_true true = refl
    and_true false = refl

-- words that have the bits of the assignments of so many inputs
pub members_of-all_of : (inputs : ℕ) (words : List ℕ) → inputs ≤ 10
    → ((k j : ℕ) → k < 16 → j < 64 → bit (get_or words k 0) j ≡ nat_lt (64 * k + j) (2 ^ inputs)) → members_of words ≡ all_of inputs
members_of-all_of inputs words few each =
    let small : 2 ^ inputs ≤ 2 ^ 10 = pow_mono few in
    members_of-same words (all_of inputs)
    (λ x below. each (x / 64) (x % 64) (omega arith) (omega arith)
    ∙ ap (λ n. nat_lt n (2 ^ inputs)) (let same : 64 * (x / 64) + x % 64 ≡ x = omega arith in same) ∙ sym (contains-all_of inputs x))
    (λ x above. contains-all_of inputs x ∙ le-ltb x (2 ^ inputs) (omega arith))

-- the bits of a word of ones alone, and of one with so many ones at its front
pub bit-all_ones : (j : ℕ) → j < 64 → bit 18446744073709551615 j ≡ true
bit-all_ones j within = ap (λ n. nat_eq n 1) (bit_at_ones 64 j within)

pub bit-ones : (d j : ℕ) → bit (2 ^ d - 1) j ≡ nat_lt j d
bit-ones d j = elim (cases_lt j d) [
  | inl below ↦ ap (λ n. nat_eq n 1) (bit_at_ones d j below) ∙ sym (lt-ltb j d below)
  | inr above ↦ ap (λ n. nat_eq n 1) (bit_at_ones_above d j above) ∙ sym (le-ltb j d above)
]

-- the word at a place of the numbers below an end that lies in it or behind it
pub bit-whole : (start end j : ℕ) → start + 64 ≤ end → j < 64 → bit 18446744073709551615 j ≡ nat_lt (start + j) end
bit-whole start end j long within = bit-all_ones j within ∙ sym (lt-ltb (start + j) end (omega arith))

pub bit-front : (start end j : ℕ) → start < end → end < start + 64 → bit (1 * 2 ^ (end - start) % 18446744073709551616 - 1) j ≡ nat_lt (start + j) end
bit-front start end j some short =
    let d : ℕ = end - start in
    ap (λ n. bit (n - 1) j) (one_shl d 64 (omega arith)) ∙ bit-ones d j ∙ grind (arith, nat_tests)
