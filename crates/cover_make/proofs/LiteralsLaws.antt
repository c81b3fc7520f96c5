-- Cubes that are given by their literals.
use Rattle.std.proofs.Common.{◌≡◌, ℕ, suc, zero, ◌+◌, ◌-◌, ◌*◌, ◌^◌, ◌<◌, inl, inr, Bool, true, false, cond, ◌&&◌, refl, sym, ap, ap₂, ◌∙◌, arith, nat_eq, nat_lt, bit_and, None, Some, Option, is_some, unwrap_or, add-one}
use Rattle.std.proofs.lemmas.Bool.{cases_lt, cases_eq, le-ltb}
use Rattle.std.proofs.lemmas.Option.{none-some}
use Rattle.std.proofs.lemmas.Nat.Bits.{bit_at_cat_low, bit_at_cat_high}
use Rattle.std.proofs.lemmas.Grind.{pow_more}
use Rattle.std.specs.Int.{bit_at}
use Rattle.cube_core.specs.Assignment.{bit}
use Rattle.cube_core.specs.Cube.{Product, IsProduct, literal_of, agrees, in_cube}
use Rattle.cube_core.proofs.Tools.{bit-and, literal_of-past, in_cube-from, same_from_tests, bit-past, same_product}
use Rattle.cover_make.specs.Literals.{bits_below, cube_by, point_of, without}

-- ---- a number by its bits

bits_below-more : (test : ℕ → Bool) (n : ℕ) → bits_below test (suc n) ≡ cond (test n) 1 0 * 2 ^ n + bits_below test n
bits_below-more test n = elim (test n) as (λ b. cond b (2 ^ n) 0 + bits_below test n ≡ cond b 1 0 * 2 ^ n + bits_below test n) [ true ↦ omega arith | false ↦ omega arith ]

bits_below-fits : (test : ℕ → Bool) (n : ℕ) → bits_below test n < 2 ^ n
bits_below-fits test zero = omega arith
bits_below-fits test (suc n) =
    let inner : bits_below test n < 2 ^ n = bits_below-fits test n in
    let twice : 2 ^ (n + 1) ≡ 2 ^ n * 2 = pow_more 2 n in
    let whole : 2 ^ suc n ≡ 2 ^ (n + 1) = rw add-one refl in
    elim (test n) as (λ b. cond b (2 ^ n) 0 + bits_below test n < 2 ^ suc n) [ true ↦ omega arith | false ↦ omega arith ]

bit-bits_below : (test : ℕ → Bool) (n i : ℕ) → i < n → bit (bits_below test n) i ≡ test i
bit-bits_below test zero i within = absurd (omega arith)
bit-bits_below test (suc n) i within = ap (λ m. bit m i) (bits_below-more test n) ∙ elim (cases_eq i n) [
  | inl same ↦
      let none : i - n ≡ 0 = omega arith in
      ap (λ m. nat_eq m 1) (bit_at_cat_high (cond (test n) 1 0) n (bits_below test n) i (bits_below-fits test n) (omega arith) ∙ ap (bit_at (cond (test n) 1 0)) none)
      ∙ lowest (test n) ∙ ap test (sym same)
  | inr other ↦ ap (λ m. nat_eq m 1) (bit_at_cat_low (cond (test n) 1 0) n (bits_below test n) i (omega arith)) ∙ bit-bits_below test n i (omega arith)
]
  where
    lowest : (b : Bool) → nat_eq (bit_at (cond b 1 0) 0) 1 ≡ b
    lowest true = refl
    lowest false = refl

-- ---- a cube by its literals

pub IsProduct-cube_by : (literal : ℕ → Option Bool) → IsProduct (cube_by literal)
unfolding cube_by
IsProduct-cube_by literal = record {
  care = bits_below-fits (λ i. is_some (literal i)) 10;
  within = same_from_tests (bit_and value care) value (λ i. bit-and value care i ∙ elim (cases_lt i 10) [
    | inl few ↦ ap₂ (λ a b. a && b) (bit-bits_below (λ i. unwrap_or (literal i) false) 10 i few) (bit-bits_below (λ i. is_some (literal i)) 10 i few)
        ∙ wanted_cares (literal i) ∙ sym (bit-bits_below (λ i. unwrap_or (literal i) false) 10 i few)
    | inr past ↦ ap (λ a. a && bit care i) (bit-past value i (bits_below-fits (λ i. unwrap_or (literal i) false) 10) past)
        ∙ sym (bit-past value i (bits_below-fits (λ i. unwrap_or (literal i) false) 10) past)
  ]);
}
  where
    care : ℕ
    care = bits_below (λ i. is_some (literal i)) 10

    value : ℕ
    value = bits_below (λ i. unwrap_or (literal i) false) 10

    wanted_cares : (l : Option Bool) → (unwrap_or l false && is_some l) ≡ unwrap_or l false
    wanted_cares None = refl
    wanted_cares (Some true) = refl
    wanted_cares (Some false) = refl

pub literal_of-cube_by : (literal : ℕ → Option Bool) (i : ℕ) → i < 10 → literal_of (cube_by literal) i ≡ literal i
unfolding cube_by
literal_of-cube_by literal i few =
    ap₂ (λ b v. cond b (Some v) None) (bit-bits_below (λ i. is_some (literal i)) 10 i few) (bit-bits_below (λ i. unwrap_or (literal i) false) 10 i few)
    ∙ back (literal i)
  where
    back : (l : Option Bool) → cond (is_some l) (Some (unwrap_or l false)) None ≡ l
    back None = refl
    back (Some v) = refl

-- a cube is the one that its literals give
same_cube_by : (c : Product) (literal : ℕ → Option Bool) → IsProduct c → ((i : ℕ) → literal_of c i ≡ literal i) → c ≡ cube_by literal
same_cube_by c literal h same = same_product c (cube_by literal) h (IsProduct-cube_by literal) (λ i few. same i ∙ sym (literal_of-cube_by literal i few))

pub point_of-same : (c : Product) (inputs x : ℕ) → IsProduct c → ((i : ℕ) → literal_of c i ≡ cond (nat_lt i inputs) (Some (bit x i)) None) → c ≡ point_of inputs x
point_of-same c inputs x h same = same_cube_by c (λ i. cond (nat_lt i inputs) (Some (bit x i)) None) h same

pub without-same : (c d : Product) (input : ℕ) → IsProduct d → ((i : ℕ) → literal_of d i ≡ cond (nat_eq i input) None (literal_of c i)) → d ≡ without c input
without-same c d input h same = same_cube_by d (λ i. cond (nat_eq i input) None (literal_of c i)) h same

pub literal_of-without : (c : Product) (input i : ℕ) → IsProduct c → literal_of (without c input) i ≡ cond (nat_eq i input) None (literal_of c i)
literal_of-without c input i h = elim (cases_lt i 10) [
  | inl few ↦ literal_of-cube_by (λ j. cond (nat_eq j input) None (literal_of c j)) i few
  | inr past ↦
      literal_of-past (without c input) (IsProduct-cube_by (λ j. cond (nat_eq j input) None (literal_of c j))) i past
      ∙ sym (ap (cond (nat_eq i input) None) (literal_of-past c h i past) ∙ none_both (nat_eq i input))
]
  where
    none_both : (b : Bool) → let none : Option Bool = None in cond b none none ≡ none
    none_both true = refl
    none_both false = refl

-- ---- the cube of one assignment

-- its literals are of the first inputs
pub literal_of-point_of : (inputs x i : ℕ) (wanted : Bool) → literal_of (point_of inputs x) i ≡ Some wanted → i < inputs
literal_of-point_of inputs x i wanted e = elim (cases_lt i inputs) [
  | inl below ↦ below
  | inr above ↦ elim (cases_lt i 10) [
    | inl few ↦ absurd (none-some wanted (sym (literal_of-cube_by (λ j. cond (nat_lt j inputs) (Some (bit x j)) None) i few ∙ ap (λ b. cond b (Some (bit x i)) None) (le-ltb i inputs above)) ∙ e))
    | inr past ↦ absurd (none-some wanted (sym (literal_of-past (point_of inputs x) (IsProduct-cube_by (λ j. cond (nat_lt j inputs) (Some (bit x j)) None)) i past) ∙ e))
  ]
]

pub in_cube-point_of : (inputs x : ℕ) → in_cube (point_of inputs x) x ≡ true
in_cube-point_of inputs x = in_cube-from (point_of inputs x) x (λ i few.
    ap (λ l. agrees l (bit x i)) (literal_of-cube_by (λ j. cond (nat_lt j inputs) (Some (bit x j)) None) i few) ∙ itself (nat_lt i inputs) (bit x i))
  where
    itself : (b v : Bool) → agrees (cond b (Some v) None) v ≡ true
    itself false v = refl
    itself true true = refl
    itself true false = refl
