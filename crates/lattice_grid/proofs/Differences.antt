-- The least input on which two assignments differ.
use Rattle.std.proofs.Common.{◌≡◌, ◌≢◌, ℕ, suc, zero, ◌+◌, ◌%◌, ◌^◌, ◌<◌, ◌≤◌, inl, inr, Bool, true, false, cond, not, refl, sym, ap, ◌∙◌, arith, nat_eq, nat_lt, subst, w16}
use Rattle.std.specs.Int.{bit_at, trailing_zeros}
use Rattle.std.specs.Int.RustNames.{bit_xor}
use Rattle.std.specs.Bool.{beq}
use Rattle.std.proofs.lemmas.Bool.Decides.{eqb_tells}
use Rattle.std.proofs.lemmas.Nat.Bits.{bit_at-trailing_zeros, bit_at_xor, bit_at-lt, same_from_bits, bit_at_above, bit_at-zero}
use Rattle.std.proofs.lemmas.Nat.{widths}
use Rattle.cube_core.specs.Assignment.{bit}
use Rattle.cube_core.specs.Rising.{least_from}
use Rattle.lattice_grid.specs.declared.control.Control.TheVariants.{Plain, Bar}
use Rattle.lattice_grid.specs.Pairs.{least_difference, telling}

-- the first number that passes is the least
pub least_from-first : (test : ℕ → Bool) (many i k : ℕ) → i ≤ k → k < i + many → test k ≡ true → ((j : ℕ) → j < k → test j ≡ false) → least_from test many i ≡ k
least_from-first test zero i k from below passes none = absurd (omega arith)
least_from-first test (suc many) i k from below passes none = elim (eqb_tells i k) [
  | inl same ↦ ap (λ b. cond b i (least_from test many (suc i))) (ap test same.1 ∙ passes) ∙ same.1
  | inr other ↦
      let ne : i ≢ k = other.1 in
      let before : i < k = omega arith in
      ap (λ b. cond b i (least_from test many (suc i))) (none i before) ∙ least_from-first test many (suc i) k (omega arith) (omega arith) passes none
]

-- whether two assignments differ on an input
abbrev pub differ : ℕ → ℕ → ℕ → Bool
differ x y i = not (beq (bit x i) (bit y i))

-- two bits by their sum
bits_differ : (a b : ℕ) → a < 2 → b < 2 → not (beq (nat_eq a 1) (nat_eq b 1)) ≡ nat_eq ((a + b) % 2) 1
bits_differ zero zero p q = refl
bits_differ zero (suc zero) p q = refl
bits_differ (suc zero) zero p q = refl
bits_differ (suc zero) (suc zero) p q = refl
bits_differ (suc (suc a)) b p q = absurd (omega arith)
bits_differ zero (suc (suc b)) p q = absurd (omega arith)
bits_differ (suc zero) (suc (suc b)) p q = absurd (omega arith)

differ-xor : (x y i : ℕ) → differ x y i ≡ nat_eq (bit_at (bit_xor x y) i) 1
differ-xor x y i = bits_differ (bit_at x i) (bit_at y i) (bit_at-lt x i) (bit_at-lt y i) ∙ ap (λ n. nat_eq n 1) (sym (bit_at_xor x y i))

-- two bits with an even sum are equal
even_same : (a b : ℕ) → a < 2 → b < 2 → (a + b) % 2 ≡ 0 → a ≡ b
even_same a b p q even = omega arith

xor_some : (x y : ℕ) → x ≢ y → 0 < bit_xor x y
xor_some x y apart = elim (eqb_tells (bit_xor x y) 0) [
  | inl none ↦ absurd (apart (same_from_bits x y (λ i. even_same (bit_at x i) (bit_at y i) (bit_at-lt x i) (bit_at-lt y i)
      (sym (bit_at_xor x y i) ∙ ap (λ n. bit_at n i) none.1 ∙ bit_at-zero i))))
  | inr some ↦ let ne : bit_xor x y ≢ 0 = some.1 in omega arith
]

xor_small : (x y : ℕ) → x < 1024 → y < 1024 → bit_xor x y < 2 ^ 16
xor_small x y px py = let qx : x < 65536 = omega arith in let qy : y < 65536 = omega arith in grind (arith, widths)

-- what the place of the lowest 1 of the difference is
pub record IsLeastDifference (x y i n : ℕ) : Type 0 where
  pub within : i < n
  pub differs : differ x y i ≡ true
  pub least : least_difference x y ≡ i

-- bits that differ lie below a bound of both
differ_below : (x y i n : ℕ) → x < 2 ^ n → y < 2 ^ n → differ x y i ≡ true → i < n
differ_below x y i n px py d = elim (nat_lt i n) as (λ b. nat_lt i n ≡ b → i < n) [
  | true ↦ λ e. Rattle.std.proofs.lemmas.Bool.ltb-true i n e
  | false ↦ λ e.
      let above : n ≤ i = Rattle.std.proofs.lemmas.Bool.ltb-false i n e in
      let none : not (beq (nat_eq 0 1) (nat_eq 0 1)) ≡ true = subst (λ a. not (beq (nat_eq a 1) (nat_eq 0 1)) ≡ true) (bit_at_above x n i px above)
      (subst (λ b. not (beq (nat_eq (bit_at x i) 1) (nat_eq b 1)) ≡ true) (bit_at_above y n i py above) d) in
      absurd (Rattle.std.proofs.lemmas.Bool.false≢true none)
] refl

pub least_difference-trailing_zeros : (x y n : ℕ) → n ≤ 10 → x < 2 ^ n → y < 2 ^ n → x < 1024 → y < 1024 → x ≢ y → IsLeastDifference x y (trailing_zeros w16 (bit_xor x y)) n
unfolding least_difference
least_difference-trailing_zeros x y n few px py qx qy apart =
    let i : ℕ = trailing_zeros w16 (bit_xor x y) in
    let small : bit_xor x y < 2 ^ 16 = xor_small x y qx qy in
    let found = bit_at-trailing_zeros w16 (bit_xor x y) (xor_some x y apart) small in
    let differs : differ x y i ≡ true = differ-xor x y i ∙ ap (λ n. nat_eq n 1) found.1 in
    let within : i < n = differ_below x y i n px py differs in
    record {
      within = within;
      differs = differs;
      least = least_from-first (differ x y) 10 0 i (omega arith) (omega arith) differs (λ j before. differ-xor x y j ∙ ap (λ n. nat_eq n 1) (found.2 j before));
    }

-- the telling literal, by the least difference
pub telling_plain : (x y i : ℕ) → least_difference x y ≡ i → bit x i ≡ true → telling x y ≡ Plain i
telling_plain x y i e b = ap (λ k. cond (bit x k) (Plain k) (Bar k)) e ∙ ap (λ t. cond t (Plain i) (Bar i)) b

pub telling_bar : (x y i : ℕ) → least_difference x y ≡ i → bit x i ≡ false → telling x y ≡ Bar i
telling_bar x y i e b = ap (λ k. cond (bit x k) (Plain k) (Bar k)) e ∙ ap (λ t. cond t (Plain i) (Bar i)) b
