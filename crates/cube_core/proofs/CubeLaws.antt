-- Which assignments are in a cube, by its literals and by the masks that the code computes with.
use Rattle.std.proofs.Common.{◌≡◌, ◌≢◌, ℕ, suc, zero, ◌+◌, ◌-◌, ◌*◌, ◌/◌, ◌%◌, ◌^◌, ◌<◌, ◌≤◌, inl, inr, Bool, true, false, cond, ◌&&◌, min, max, refl, sym, ap, ap₂, ◌∙◌, arith, nat_eq, nat_lt, bit_and, bit_or, w16, None, Some, Option, List, [], ◌∷◌, get_or, add-one}
use Rattle.std.specs.Int.{bit_at, bit_not}
use Rattle.std.proofs.lemmas.Bool.{cases_lt, cases_eq, lt-ltb, le-ltb, eq-eqb, ne_eqb, eqb-true, agree_below_at}
use Rattle.std.proofs.lemmas.Bool.Decides.{Decides-below_and, same_from_decides, nat_tests}
use Rattle.std.proofs.lemmas.Nat.Bits.{bit_at-lt, bit_at_and, bit_at_or, bit_at_above, same_from_bits, bit_at_set_same, bit_at_set_other, bit_at_clear_same, bit_at_clear_other, bit_at_ones, bit_at_ones_above, bit_at_cat_low}
use Rattle.std.proofs.lemmas.Nat.{and_le_l, and_mask, and_mod, and_block, or_lt, one_shl}
use Rattle.std.proofs.lemmas.Grind.{pow_more}
use Rattle.std.proofs.Math.Pow.{pow_mono}
use Rattle.std.specs.Bool.{Decides}
use Rattle.std.specs.FinSet as sets
use Rattle.cube_core.specs.Members.{members_of}
use Rattle.cube_core.proofs.MembersLaws.{contains-passing_below}
use Rattle.cube_core.proofs.WordLaws.{bit-and, members_of-same}
use Rattle.cube_core.specs.Assignment.{bit}
use Rattle.cube_core.specs.Cube.{Product, IsProduct, literal_of, agrees, each_below, in_cube, members_of_cube}

-- ---- a test at each number below an end

each_decides : (test : ℕ → Bool) (n : ℕ) → Decides (each_below test n) ((k : ℕ) → k < n → test k ≡ true)
each_decides test n = Decides-below_and test (λ k. test k ≡ true) (each_below test) (λ k. (λ e. e, λ e. e)) refl (λ _. refl) n

pub each_below-all : (test : ℕ → Bool) (n : ℕ) → each_below test n ≡ true → (k : ℕ) → k < n → test k ≡ true
each_below-all test n = (each_decides test n).0

pub each_below-from : (test : ℕ → Bool) (n : ℕ) → ((k : ℕ) → k < n → test k ≡ true) → each_below test n ≡ true
each_below-from test n = (each_decides test n).1

pub each_below-same : (test other : ℕ → Bool) (n : ℕ) → ((k : ℕ) → k < n → test k ≡ other k) → each_below test n ≡ each_below other n
each_below-same test other zero same = refl
each_below-same test other (suc n) same = ap₂ (λ a b. a && b) (same n (omega arith)) (each_below-same test other n (λ k h. same k (omega arith)))

-- ---- an assignment in a cube

pub in_cube-all : (c : Product) (x : ℕ) → in_cube c x ≡ true → (i : ℕ) → i < 10 → agrees (literal_of c i) (bit x i) ≡ true
unfolding in_cube
in_cube-all c x h = each_below-all (λ i. agrees (literal_of c i) (bit x i)) 10 h

pub in_cube-from : (c : Product) (x : ℕ) → ((i : ℕ) → i < 10 → agrees (literal_of c i) (bit x i) ≡ true) → in_cube c x ≡ true
unfolding in_cube
in_cube-from c x h = each_below-from (λ i. agrees (literal_of c i) (bit x i)) 10 h

-- cubes with the same literals have the same assignments
pub in_cube-same : (c d : Product) (x : ℕ) → ((i : ℕ) → i < 10 → literal_of c i ≡ literal_of d i) → in_cube c x ≡ in_cube d x
unfolding in_cube
in_cube-same c d x same = each_below-same (λ i. agrees (literal_of c i) (bit x i)) (λ i. agrees (literal_of d i) (bit x i)) 10
    (λ i few. ap (λ l. agrees l (bit x i)) (same i few))

-- ---- masks

-- one literal against one bit of each mask
agrees_bits : (c v x : ℕ) → c < 2 → v < 2 → x < 2 → min v c ≡ v → agrees (cond (nat_eq c 1) (Some (nat_eq v 1)) None) (nat_eq x 1) ≡ nat_eq (min x c) v
agrees_bits zero zero zero hc hv hx w = refl
agrees_bits zero zero (suc zero) hc hv hx w = refl
agrees_bits zero (suc zero) x hc hv hx w = absurd (omega arith)
agrees_bits (suc zero) zero zero hc hv hx w = refl
agrees_bits (suc zero) zero (suc zero) hc hv hx w = refl
agrees_bits (suc zero) (suc zero) zero hc hv hx w = refl
agrees_bits (suc zero) (suc zero) (suc zero) hc hv hx w = refl
agrees_bits (suc (suc c)) v x hc hv hx w = absurd (omega arith)
agrees_bits zero (suc (suc v)) x hc hv hx w = absurd (omega arith)
agrees_bits (suc zero) (suc (suc v)) x hc hv hx w = absurd (omega arith)
agrees_bits zero zero (suc (suc x)) hc hv hx w = absurd (omega arith)
agrees_bits (suc zero) zero (suc (suc x)) hc hv hx w = absurd (omega arith)
agrees_bits (suc zero) (suc zero) (suc (suc x)) hc hv hx w = absurd (omega arith)

-- a value within the cares, bit by bit
pub within_bit : (value care i : ℕ) → bit_and value care ≡ value → min (bit_at value i) (bit_at care i) ≡ bit_at value i
within_bit value care i w = sym (bit_at_and value care i) ∙ ap (λ n. bit_at n i) w

agrees-mask : (care value x i : ℕ) → bit_and value care ≡ value
    → agrees (literal_of (record { care = care; value = value }) i) (bit x i) ≡ nat_eq (min (bit_at x i) (bit_at care i)) (bit_at value i)
agrees-mask care value x i w = agrees_bits (bit_at care i) (bit_at value i) (bit_at x i) (bit_at-lt care i) (bit_at-lt value i) (bit_at-lt x i) (within_bit value care i w)

-- `x & care == value` tests each literal of the first n inputs, where the cube cares for no other
pub mask-each_below : (n care value x : ℕ) → care < 2 ^ n → bit_and value care ≡ value
    → nat_eq (bit_and x care) value ≡ each_below (λ i. agrees (literal_of (record { care = care; value = value }) i) (bit x i)) n
mask-each_below n care value x few w = same_from_decides {P = (k : ℕ) → k < n → agrees (literal_of (record { care = care; value = value }) k) (bit x k) ≡ true} (nat_eq (bit_and x care) value) _ (
  λ e i below. agrees-mask care value x i w ∙ eq-eqb _ _ (sym (bit_at_and x care i) ∙ ap (λ m. bit_at m i) (eqb-true (bit_and x care) value e)),
  λ all. eq-eqb _ _ (same_from_bits (bit_and x care) value (λ i. elim (cases_lt i n) [
    | inl below ↦ bit_at_and x care i ∙ eqb-true _ _ (sym (agrees-mask care value x i w) ∙ all i below)
    | inr above ↦
        let none : bit_at care i ≡ 0 = bit_at_above care n i few above in
        let inner = within_bit value care i w in
        bit_at_and x care i ∙ omega arith
  ])),
) (each_decides (λ i. agrees (literal_of (record { care = care; value = value }) i) (bit x i)) n)

pub mask-in_cube : (c : Product) → IsProduct c → (x : ℕ) → nat_eq (bit_and x c.care) c.value ≡ in_cube c x
unfolding in_cube
mask-in_cube c h x = mask-each_below 10 c.care c.value x h.care h.within

-- ---- one literal more or less

-- a cube has no literal of an input from ten on
pub literal_of-past : (c : Product) → IsProduct c → (i : ℕ) → 10 ≤ i → literal_of c i ≡ None
literal_of-past c h i past = ap (λ b. cond (nat_eq b 1) (Some (bit c.value i)) None) (bit_at_above c.care 10 i h.care past)

-- the mask of one input
one_bit : (k : ℕ) → k < 10 → 1 * 2 ^ k % 65536 ≡ 2 ^ k
one_bit k few = one_shl k 16 (omega arith)

one_bit_few : (k : ℕ) → k < 10 → 1 * 2 ^ k % 65536 < 1024
one_bit_few k few = let small : 2 ^ (k + 1) ≤ 2 ^ 10 = pow_mono {i = k + 1} {j = 10} (omega arith) in omega (arith, one_bit k few, pow_more 2 k)

pub IsProduct-with_true : (c : Product) (k : ℕ) → IsProduct c → k < 10
    → IsProduct (record { care = bit_or c.care (1 * 2 ^ k % 65536); value = bit_or c.value (1 * 2 ^ k % 65536) })
IsProduct-with_true c k h few =
    let one : ℕ = 1 * 2 ^ k % 65536 in
    record {
      care = or_lt 10 c.care one h.care (one_bit_few k few);
      within = same_from_bits _ _ (λ i.
          let inner = within_bit c.value c.care i h.within in
          bit_at_and (bit_or c.value one) (bit_or c.care one) i
          ∙ ap₂ min (bit_at_or c.value one i) (bit_at_or c.care one i)
          ∙ max_max (bit_at c.value i) (bit_at c.care i) (bit_at one i) inner
          ∙ sym (bit_at_or c.value one i));
    }
  where
    max_max : (a b m : ℕ) → min a b ≡ a → min (max a m) (max b m) ≡ max a m
    max_max a b m e = omega arith

pub IsProduct-with_false : (c : Product) (k : ℕ) → IsProduct c → k < 10
    → IsProduct (record { care = bit_or c.care (1 * 2 ^ k % 65536); value = bit_and c.value (bit_not w16 (1 * 2 ^ k % 65536)) })
IsProduct-with_false c k h few =
    let one : ℕ = 1 * 2 ^ k % 65536 in
    let others : ℕ = bit_not w16 one in
    record {
      care = or_lt 10 c.care one h.care (one_bit_few k few);
      within = same_from_bits _ _ (λ i.
          let inner = within_bit c.value c.care i h.within in
          bit_at_and (bit_and c.value others) (bit_or c.care one) i
          ∙ ap₂ min (bit_at_and c.value others i) (bit_at_or c.care one i)
          ∙ min_max (bit_at c.value i) (bit_at c.care i) (bit_at others i) (bit_at one i) inner
          ∙ sym (bit_at_and c.value others i));
    }
  where
    min_max : (a b m o : ℕ) → min a b ≡ a → min (min a m) (max b o) ≡ min a m
    min_max a b m o e = omega arith

pub IsProduct-without : (c : Product) (k : ℕ) → IsProduct c
    → IsProduct (record { care = bit_and c.care (bit_not w16 (1 * 2 ^ k % 65536)); value = bit_and c.value (bit_not w16 (1 * 2 ^ k % 65536)) })
IsProduct-without c k h =
    let others : ℕ = bit_not w16 (1 * 2 ^ k % 65536) in
    let care = h.care in
    record {
      care = omega (arith, and_le_l c.care others);
      within = same_from_bits _ _ (λ i.
          let inner = within_bit c.value c.care i h.within in
          bit_at_and (bit_and c.value others) (bit_and c.care others) i
          ∙ ap₂ min (bit_at_and c.value others i) (bit_at_and c.care others i)
          ∙ min_min (bit_at c.value i) (bit_at c.care i) (bit_at others i) inner
          ∙ sym (bit_at_and c.value others i));
    }
  where
    min_min : (a b m : ℕ) → min a b ≡ a → min (min a m) (min b m) ≡ min a m
    min_min a b m e = omega arith

-- a literal by the two bits that it comes from
literal_by : (c : Product) (i : ℕ) (care value : ℕ) → bit_at c.care i ≡ care → bit_at c.value i ≡ value → literal_of c i ≡ cond (nat_eq care 1) (Some (nat_eq value 1)) None
literal_by c i care value e f = ap₂ (λ a b. cond (nat_eq a 1) (Some (nat_eq b 1)) None) e f

-- what is changed at one input and kept at the others
changed : (c d : Product) (k : ℕ) (l : Option Bool) → IsProduct c → IsProduct d → k < 10 → literal_of d k ≡ l
    → ((i : ℕ) → i < 10 → i ≢ k → literal_of d i ≡ literal_of c i) → (i : ℕ) → literal_of d i ≡ cond (nat_eq i k) l (literal_of c i)
changed c d k l hc hd few here others i = elim (cases_eq i k) [
  | inl same ↦ ap (literal_of d) same ∙ here ∙ sym (ap (λ b. cond b l (literal_of c i)) (eq-eqb i k same))
  | inr other ↦ elim (cases_lt i 10) [
    | inl low ↦ others i low other ∙ sym (ap (λ b. cond b l (literal_of c i)) (ne_eqb i k other))
    | inr past ↦ literal_of-past d hd i past ∙ sym (literal_of-past c hc i past) ∙ sym (ap (λ b. cond b l (literal_of c i)) (ne_eqb i k other))
  ]
]

pub literals-with_true : (c : Product) (k : ℕ) → IsProduct c → k < 10
    → (i : ℕ) → literal_of (record { care = bit_or c.care (1 * 2 ^ k % 65536); value = bit_or c.value (1 * 2 ^ k % 65536) }) i
    ≡ cond (nat_eq i k) (Some true) (literal_of c i)
literals-with_true c k h few =
    let d : Product = record { care = bit_or c.care (1 * 2 ^ k % 65536); value = bit_or c.value (1 * 2 ^ k % 65536) } in
    changed c d k (Some true) h (IsProduct-with_true c k h few) few
    (literal_by d k 1 1 (bit_at_set_same w16 c.care k (omega arith)) (bit_at_set_same w16 c.value k (omega arith)))
    (λ i low other. literal_by d i (bit_at c.care i) (bit_at c.value i)
    (bit_at_set_other w16 c.care k (omega arith) i other) (bit_at_set_other w16 c.value k (omega arith) i other))

pub literals-with_false : (c : Product) (k : ℕ) → IsProduct c → k < 10
    → (i : ℕ) → literal_of (record { care = bit_or c.care (1 * 2 ^ k % 65536); value = bit_and c.value (bit_not w16 (1 * 2 ^ k % 65536)) }) i
    ≡ cond (nat_eq i k) (Some false) (literal_of c i)
literals-with_false c k h few =
    let d : Product = record { care = bit_or c.care (1 * 2 ^ k % 65536); value = bit_and c.value (bit_not w16 (1 * 2 ^ k % 65536)) } in
    changed c d k (Some false) h (IsProduct-with_false c k h few) few
    (literal_by d k 1 0 (bit_at_set_same w16 c.care k (omega arith)) (bit_at_clear_same w16 c.value k (omega arith)))
    (λ i low other. literal_by d i (bit_at c.care i) (bit_at c.value i)
    (bit_at_set_other w16 c.care k (omega arith) i other) (bit_at_clear_other w16 c.value k (omega arith) i (omega arith) other))

pub literals-without : (c : Product) (k : ℕ) → IsProduct c → k < 10
    → (i : ℕ) → literal_of (record { care = bit_and c.care (bit_not w16 (1 * 2 ^ k % 65536)); value = bit_and c.value (bit_not w16 (1 * 2 ^ k % 65536)) }) i
    ≡ cond (nat_eq i k) None (literal_of c i)
literals-without c k h few =
    let d : Product = record { care = bit_and c.care (bit_not w16 (1 * 2 ^ k % 65536)); value = bit_and c.value (bit_not w16 (1 * 2 ^ k % 65536)) } in
    changed c d k None h (IsProduct-without c k h) few
    (literal_by d k 0 0 (bit_at_clear_same w16 c.care k (omega arith)) (bit_at_clear_same w16 c.value k (omega arith)))
    (λ i low other. literal_by d i (bit_at c.care i) (bit_at c.value i)
    (bit_at_clear_other w16 c.care k (omega arith) i (omega arith) other) (bit_at_clear_other w16 c.value k (omega arith) i (omega arith) other))

-- ---- the cube of one assignment

-- `(1 << n) - 1`
ones_few : (n : ℕ) → n ≤ 10 → 1 * 2 ^ n % 65536 - 1 ≡ 2 ^ n - 1
ones_few n few = let small : 2 ^ n ≤ 2 ^ 10 = pow_mono few in omega arith

pub IsProduct-point : (n x : ℕ) → n ≤ 10 → IsProduct (record { care = 1 * 2 ^ n % 65536 - 1; value = bit_and x (1 * 2 ^ n % 65536 - 1) })
IsProduct-point n x few =
    let small : 2 ^ n ≤ 2 ^ 10 = pow_mono few in
    record {
      care = omega arith;
      within = same_from_bits _ _ (λ i.
          let mask : ℕ = 1 * 2 ^ n % 65536 - 1 in
          bit_at_and (bit_and x mask) mask i ∙ ap (λ a. min a (bit_at mask i)) (bit_at_and x mask i) ∙ twice (bit_at x i) (bit_at mask i) ∙ sym (bit_at_and x mask i));
    }
  where
    twice : (a m : ℕ) → min (min a m) m ≡ min a m
    twice a m = omega arith

pub literals-point : (n x : ℕ) → n ≤ 10 → (i : ℕ)
    → literal_of (record { care = 1 * 2 ^ n % 65536 - 1; value = bit_and x (1 * 2 ^ n % 65536 - 1) }) i ≡ cond (nat_lt i n) (Some (bit x i)) None
literals-point n x few i =
    let mask : ℕ = 1 * 2 ^ n % 65536 - 1 in
    let c : Product = record { care = mask; value = bit_and x mask } in
    let bound = bit_at-lt x i in
    elim (cases_lt i n) [
      | inl below ↦
          let one : bit_at mask i ≡ 1 = ap (λ m. bit_at m i) (ones_few n few) ∙ bit_at_ones n i below in
          literal_by c i 1 (bit_at x i) one (bit_at_and x mask i ∙ ap (min (bit_at x i)) one ∙ omega arith)
          ∙ sym (ap (λ b. cond b (Some (bit x i)) None) (lt-ltb i n below))
      | inr above ↦
          let zero : bit_at mask i ≡ 0 = ap (λ m. bit_at m i) (ones_few n few) ∙ bit_at_ones_above n i above in
          literal_by c i 0 (bit_at c.value i) zero refl ∙ sym (ap (λ b. cond b (Some (bit x i)) None) (le-ltb i n above))
    ]

pub in_cube-point : (n x : ℕ) → n ≤ 10 → (y : ℕ)
    → in_cube (record { care = 1 * 2 ^ n % 65536 - 1; value = bit_and x (1 * 2 ^ n % 65536 - 1) }) y ≡ nat_eq (y % 2 ^ n) (x % 2 ^ n)
in_cube-point n x few y =
    sym (mask-in_cube (record { care = 1 * 2 ^ n % 65536 - 1; value = bit_and x (1 * 2 ^ n % 65536 - 1) }) (IsProduct-point n x few) y)
    ∙ ap (λ m. nat_eq (bit_and y m) (bit_and x m)) (ones_few n few) ∙ ap₂ nat_eq (and_mask y n) (and_mask x n)

-- the cube that cares for nothing
pub in_cube-free : (c : Product) (x : ℕ) → ((i : ℕ) → literal_of c i ≡ None) → in_cube c x ≡ true
in_cube-free c x free = in_cube-from c x (λ i few. ap (λ l. agrees l (bit x i)) (free i))

-- ---- the word of a cube

-- in which of 64 places each of the first six inputs is 1
abbrev ones_of : List ℕ
ones_of = 12297829382473034410 ∷ 14757395258967641292 ∷ 17361641481138401520 ∷ 18374966859414961920 ∷ 18446462603027742720 ∷ 18446744069414584320 ∷ []

bit-ones_of : (i j : ℕ) → i < 6 → j < 64 → bit (get_or ones_of i 0) j ≡ bit j i
bit-ones_of zero j few within = agree_below_at (bit 12297829382473034410) (λ j. bit j 0) 64 j refl within
bit-ones_of (suc zero) j few within = agree_below_at (bit 14757395258967641292) (λ j. bit j 1) 64 j refl within
bit-ones_of (suc (suc zero)) j few within = agree_below_at (bit 17361641481138401520) (λ j. bit j 2) 64 j refl within
bit-ones_of (suc (suc (suc zero))) j few within = agree_below_at (bit 18374966859414961920) (λ j. bit j 3) 64 j refl within
bit-ones_of (suc (suc (suc (suc zero)))) j few within = agree_below_at (bit 18446462603027742720) (λ j. bit j 4) 64 j refl within
bit-ones_of (suc (suc (suc (suc (suc zero))))) j few within = agree_below_at (bit 18446744069414584320) (λ j. bit j 5) 64 j refl within
bit-ones_of (suc (suc (suc (suc (suc (suc i)))))) j few within = absurd (omega arith)

pub and_swap : (a b : Bool) → (a && b) ≡ (b && a)
and_swap true true = refl
and_swap true false = refl
and_swap false true = refl
and_swap false false = refl

-- one more input against the places of a word
pub places-more : (c : Product) (i places more : ℕ) (l : Option Bool) (j : ℕ) → i < 6 → j < 64 → l ≡ literal_of c i
    → bit places j ≡ each_below (λ k. agrees (literal_of c k) (bit j k)) i → bit more j ≡ agrees l (bit (get_or ones_of i 0) j)
    → bit (bit_and places more) j ≡ each_below (λ k. agrees (literal_of c k) (bit j k)) (i + 1)
places-more c i places more l j few within same before here =
    bit-and places more j ∙ and_swap (bit places j) (bit more j)
    ∙ ap₂ (λ a b. a && b) (here ∙ ap₂ agrees same (bit-ones_of i j few within)) before
    ∙ ap (each_below (λ k. agrees (literal_of c k) (bit j k))) (sym (add-one i))

-- an assignment by its word and its place there: the cube's high mask tests the word, and its first six literals the place
pub in_cube-at : (c : Product) → IsProduct c → (k j : ℕ) → j < 64
    → in_cube c (64 * k + j) ≡ (nat_eq (bit_and k (c.care / 64)) (c.value / 64) && each_below (λ i. agrees (literal_of c i) (bit j i)) 6)
in_cube-at c h k j within =
    let care_low : c.care % 2 ^ 6 < 2 ^ 6 = omega arith in
    let low : Product = record { care = c.care % 2 ^ 6; value = c.value % 2 ^ 6 } in
    let inner : bit_and low.value low.care ≡ low.value = sym (and_mod c.value c.care 6) ∙ ap (λ n. n % 2 ^ 6) h.within in
    sym (mask-in_cube c h (64 * k + j))
    ∙ ap₂ nat_eq (parted c.care) (let e : c.value ≡ c.value / 64 * 64 + c.value % 64 = omega arith in e)
    ∙ blocks (bit_and k (c.care / 64)) (c.value / 64) (bit_and j (c.care % 64)) (c.value % 64) (omega (arith, and_le_l j (c.care % 64))) (omega arith)
    ∙ ap (λ b. nat_eq (bit_and k (c.care / 64)) (c.value / 64) && b)
    (mask-each_below 6 low.care low.value j care_low inner
    ∙ each_below-same (λ i. agrees (literal_of low i) (bit j i)) (λ i. agrees (literal_of c i) (bit j i)) 6
    (λ i few. ap (λ l. agrees l (bit j i)) (literal_by low i (bit_at c.care i) (bit_at c.value i) (low_bit c.care i few) (low_bit c.value i few))))
  where
    parted : (n : ℕ) → bit_and (64 * k + j) n ≡ bit_and k (n / 64) * 64 + bit_and j (n % 64)
    parted n =
        let e : 64 * k + j ≡ k * 2 ^ 6 + j = omega arith in
        let f : n ≡ n / 64 * 2 ^ 6 + n % 64 = omega arith in
        ap₂ bit_and e f ∙ and_block 6 k (n / 64) j (n % 64) (omega arith) (omega arith)

    blocks : (a b r s : ℕ) → r < 64 → s < 64 → nat_eq (a * 64 + r) (b * 64 + s) ≡ (nat_eq a b && nat_eq r s)
    blocks a b r s hr hs = grind (arith, nat_tests)

    low_bit : (n i : ℕ) → i < 6 → bit_at (n % 2 ^ 6) i ≡ bit_at n i
    low_bit n i few =
        let e : n / 64 * 2 ^ 6 + n % 2 ^ 6 ≡ n = omega arith in
        sym (bit_at_cat_low (n / 64) 6 (n % 2 ^ 6) i few) ∙ ap (λ m. bit_at m i) e

pub contains-members_of_cube : (inputs : ℕ) (c : Product) (x : ℕ) → sets.contains (members_of_cube inputs c) x ≡ (nat_lt x (2 ^ inputs) && in_cube c x)
unfolding members_of_cube
contains-members_of_cube inputs c x = contains-passing_below (in_cube c) (2 ^ inputs) x

-- words that have the bits of the assignments of so many inputs that are in a cube
pub members_of-cube : (inputs : ℕ) (c : Product) (words : List ℕ) → inputs ≤ 10
    → ((k j : ℕ) → k < 16 → j < 64 → bit (get_or words k 0) j ≡ (nat_lt (64 * k + j) (2 ^ inputs) && in_cube c (64 * k + j)))
    → members_of words ≡ members_of_cube inputs c
members_of-cube inputs c words few each =
    let small : 2 ^ inputs ≤ 2 ^ 10 = pow_mono few in
    members_of-same words (members_of_cube inputs c)
    (λ x below. each (x / 64) (x % 64) (omega arith) (omega arith)
    ∙ ap (λ n. nat_lt n (2 ^ inputs) && in_cube c n) (let same : 64 * (x / 64) + x % 64 ≡ x = omega arith in same) ∙ sym (contains-members_of_cube inputs c x))
    (λ x above. contains-members_of_cube inputs c x ∙ ap (λ b. b && in_cube c x) (le-ltb x (2 ^ inputs) (omega arith)))
