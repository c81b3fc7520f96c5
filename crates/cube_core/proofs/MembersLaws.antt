-- Which assignments are in a table of bits, and what one more bit does to them.
use Rattle.std.proofs.Common.{◌≡◌, ℕ, suc, zero, ◌+◌, ◌*◌, ◌/◌, ◌%◌, ◌^◌, ◌<◌, ◌≤◌, ◌⊎◌, inl, inr, Bool, true, false, cond, not, ◌&&◌, ◌||◌, List, length, refl, sym, ap, ◌∙◌, arith, add-one, nat_eq, nat_lt, bit_and, bit_or, replicate, get_or, w64, get_or-set_same, get_or-set_other}
use Rattle.std.proofs.Math.ListN.{set}
use Rattle.std.proofs.lemmas.Bool.Decides.{nat_tests, eqb_tells}
use Rattle.std.proofs.lemmas.Bool.{ne_eqb, eq-eqb, lt-ltb, le-ltb, ltb-true, true≢false, not-true}
use Rattle.std.proofs.lemmas.Nat.Bits.{bit_at_set_same, bit_at_set_other, bit_at-zero, shr_and_one}
use Rattle.std.specs.Int.{bit_at}
use Rattle.std.proofs.Math.Pow.{pow_mono}
use Rattle.std.specs.Ordering.{nat_cmp}
use Rattle.std.specs.Cmp.{nat_cmp_total, unsigned_tied}
use Rattle.std.specs.FinSet as sets
use Rattle.cube_core.specs.Members.{Assignments, in_words, passing_below, members_of, complement_of, AllBelow, AreDisjoint}
use Rattle.cube_core.specs.Function.{IsFunction}

pub contains-insert_nat : (s : Assignments) (k q : ℕ) → sets.contains (sets.insert s k) q ≡ (nat_eq q k || sets.contains s q)
contains-insert_nat s k q = sets.contains-insert nat_cmp_total s k q ∙ ap (λ b. b || sets.contains s q) (unsigned_tied q k)

-- one more number that passes
passes_true : (test : ℕ → Bool) (n x : ℕ) → test n ≡ true → (nat_eq x n || (nat_lt x n && test x)) ≡ (nat_lt x (suc n) && test x)
passes_true test n x p = elim (eqb_tells x n) [
  | inl same ↦ let here : test x ≡ true = ap test same.1 ∙ p in grind (arith, nat_tests)
  | inr other ↦ grind (arith, nat_tests)
]

passes_false : (test : ℕ → Bool) (n x : ℕ) → test n ≡ false → (nat_lt x n && test x) ≡ (nat_lt x (suc n) && test x)
passes_false test n x p = elim (eqb_tells x n) [
  | inl same ↦ let here : test x ≡ false = ap test same.1 ∙ p in grind (arith, nat_tests)
  | inr other ↦ grind (arith, nat_tests)
]

pub contains-passing_below : (test : ℕ → Bool) (n x : ℕ) → sets.contains (passing_below test n) x ≡ (nat_lt x n && test x)
contains-passing_below test zero x = sets.contains-empty nat_cmp x ∙ sym (ap (λ b. b && test x) (le-ltb x 0 (omega arith)))
contains-passing_below test (suc n) x =
    elim (test n) as (λ b. test n ≡ b → sets.contains (cond b (sets.insert (passing_below test n) n) (passing_below test n)) x ≡ (nat_lt x (suc n) && test x)) [
      | true ↦ λ p. contains-insert_nat (passing_below test n) n x ∙ ap (λ b. nat_eq x n || b) (contains-passing_below test n x) ∙ passes_true test n x p
      | false ↦ λ p. contains-passing_below test n x ∙ passes_false test n x p
    ] refl

pub contains-members_of : (words : List ℕ) (x : ℕ) → sets.contains (members_of words) x ≡ (nat_lt x 1024 && in_words words x)
unfolding members_of
contains-members_of words x = contains-passing_below (in_words words) 1024 x

-- the words with the bit of x set
abbrev with_bit : List ℕ → ℕ → List ℕ
with_bit words x = set words (x / 64) (bit_or (get_or words (x / 64) 0) (1 * 2 ^ (x % 64) % 2 ^ 64))

in_words-with_bit_same : (words : List ℕ) (x : ℕ) → x / 64 < length words → in_words (with_bit words x) x ≡ true
in_words-with_bit_same words x within =
    ap (λ w. nat_eq (bit_at w (x % 64)) 1) (get_or-set_same words (x / 64) _ 0 within)
    ∙ ap (λ b. nat_eq b 1) (bit_at_set_same w64 (get_or words (x / 64) 0) (x % 64) (omega arith))

pub in_words-with_bit : (words : List ℕ) (x q : ℕ) → x / 64 < length words → in_words (with_bit words x) q ≡ (nat_eq q x || in_words words q)
in_words-with_bit words x q within = elim (eqb_tells (q / 64) (x / 64)) [
  | inl same ↦ elim (eqb_tells (q % 64) (x % 64)) [
    | inl place ↦
        let both : q ≡ x = omega arith in
        ap (in_words (with_bit words x)) both ∙ in_words-with_bit_same words x within ∙ sym (ap (λ b. b || in_words words q) (eq-eqb q x both))
    | inr place ↦
        ap (λ i. nat_eq (bit_at (get_or (with_bit words x) i 0) (q % 64)) 1) same.1
        ∙ ap (λ w. nat_eq (bit_at w (q % 64)) 1) (get_or-set_same words (x / 64) _ 0 within)
        ∙ ap (λ b. nat_eq b 1) (bit_at_set_other w64 (get_or words (x / 64) 0) (x % 64) (omega arith) (q % 64) place.1)
        ∙ ap (λ i. nat_eq (bit_at (get_or words i 0) (q % 64)) 1) (sym same.1)
        ∙ sym (ap (λ b. b || in_words words q) (ne_eqb q x (λ e. place.1 (ap (λ n. n % 64) e))))
  ]
  | inr other ↦
      ap (λ w. nat_eq (bit_at w (q % 64)) 1) (get_or-set_other words (x / 64) (q / 64) _ 0 other.1)
      ∙ sym (ap (λ b. b || in_words words q) (ne_eqb q x (λ e. other.1 (ap (λ n. n / 64) e))))
]

below_or : (q x : ℕ) (b : Bool) → x < 1024 → (nat_lt q 1024 && (nat_eq q x || b)) ≡ (nat_eq q x || (nat_lt q 1024 && b))
below_or q x b below = elim (eqb_tells q x) [
  | inl same ↦ let here : nat_lt q 1024 ≡ true = lt-ltb q 1024 (omega arith) in grind (arith, nat_tests)
  | inr other ↦ grind (arith, nat_tests)
]

pub members_of-with_bit : (words : List ℕ) (x : ℕ) → length words ≡ 16 → x < 1024 → members_of (with_bit words x) ≡ sets.insert (members_of words) x
members_of-with_bit words x many below = sets.same_set nat_cmp_total sets.nat_cmp-IsAntisymmetric _ _
    (λ q. contains-members_of _ q ∙ ap (λ b. nat_lt q 1024 && b) (in_words-with_bit words x q (omega arith)) ∙ below_or q x (in_words words q) below
    ∙ sym (contains-insert_nat (members_of words) x q ∙ ap (λ b. nat_eq q x || b) (contains-members_of words q)))

-- a test that nothing passes
passing_below-none : (test : ℕ → Bool) → ((x : ℕ) → test x ≡ false) → (n : ℕ) → passing_below test n ≡ sets.empty
passing_below-none test none zero = refl
passing_below-none test none (suc n) =
    ap (λ b. cond b (sets.insert (passing_below test n) n) (passing_below test n)) (none n) ∙ passing_below-none test none n

zero_at : (n i : ℕ) → let none : ℕ = 0 in get_or (replicate n none) i none ≡ none
zero_at zero i = refl
zero_at (suc n) zero = refl
zero_at (suc n) (suc i) = zero_at n i

no_bit : (n x : ℕ) → in_words (replicate n 0) x ≡ false
no_bit n x = ap (λ w. nat_eq (bit_at w (x % 64)) 1) (zero_at n (x / 64)) ∙ ap (λ b. nat_eq b 1) (bit_at-zero (x % 64))

pub members_of-zero : members_of (replicate 16 0) ≡ sets.empty
unfolding members_of
members_of-zero = passing_below-none (in_words (replicate 16 0)) (no_bit 16) 1024

-- the test of one bit in a word
pub has_word : (words : List ℕ) (x : ℕ) → x < 1024 → nat_eq (bit_and (get_or words (x / 64) 0 / 2 ^ (x % 64)) 1) 1 ≡ sets.contains (members_of words) x
has_word words x below =
    ap (λ b. nat_eq b 1) (shr_and_one (get_or words (x / 64) 0) (x % 64))
    ∙ sym (contains-members_of words x ∙ ap (λ b. b && in_words words x) (lt-ltb x 1024 below))

-- `1 << n` for at most ten inputs
pub shl_few : (n : ℕ) → n ≤ 10 → (1 * 2 ^ n % 65536 ≡ 2 ^ n) × (2 ^ n ≤ 1024)
shl_few n few = let small : 2 ^ n ≤ 2 ^ 10 = pow_mono few in (omega arith, small)

pub passing_below-more : (test : ℕ → Bool) (n : ℕ) → passing_below test (n + 1) ≡ cond (test n) (sets.insert (passing_below test n) n) (passing_below test n)
passing_below-more test n = rw add-one refl

pub members_of-below : (words : List ℕ) (x : ℕ) → sets.contains (members_of words) x ≡ true → x < 1024
members_of-below words x h = let two : (nat_lt x 1024 && in_words words x) ≡ true = sym (contains-members_of words x) ∙ h in grind (arith, nat_tests)

pub below_or_above : (x n : ℕ) → (x < n) ⊎ (n ≤ x)
below_or_above x n = grind (arith, nat_tests)

pub contains-complement_of : (n : ℕ) (s : Assignments) (x : ℕ) → sets.contains (complement_of n s) x ≡ (nat_lt x (2 ^ n) && not (sets.contains s x))
unfolding complement_of
contains-complement_of n s x = contains-passing_below (λ x. not (sets.contains s x)) (2 ^ n) x

both_true : (a b : Bool) → (a && b) ≡ true → (a ≡ true) × (b ≡ true)
both_true true b h = (refl, h)
both_true false b h = absurd (true≢false (sym h))

pub passing_below-AllBelow : (test : ℕ → Bool) (n : ℕ) → AllBelow n (passing_below test n)
passing_below-AllBelow test n x h = ltb-true x n (both_true _ _ (sym (contains-passing_below test n x) ∙ h)).0

pub complement_of-AllBelow : (n : ℕ) (s : Assignments) → AllBelow (2 ^ n) (complement_of n s)
complement_of-AllBelow n s x h = ltb-true x (2 ^ n) (both_true _ _ (sym (contains-complement_of n s x) ∙ h)).0

pub complement_of-AreDisjoint : (n : ℕ) (s : Assignments) → AreDisjoint s (complement_of n s)
complement_of-AreDisjoint n s x one other =
    let out = (both_true _ _ (sym (contains-complement_of n s x) ∙ other)).1 in
    true≢false (sym one ∙ not-true _ out)

-- a set and its complement make a function
pub IsFunction-complement : (inputs : ℕ) (on : Assignments) → 1 ≤ inputs → inputs ≤ 10 → AllBelow (2 ^ inputs) on → IsFunction (record { inputs = inputs; on = on; off = complement_of inputs on })
IsFunction-complement inputs on some few below = record {
  some = some;
  few = few;
  on_below = below;
  off_below = complement_of-AllBelow inputs on;
  disjoint = complement_of-AreDisjoint inputs on;
}
