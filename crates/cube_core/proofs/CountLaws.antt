-- How many members a set has, by the bits of its words.
use Rattle.std.proofs.Common.{◌≡◌, ℕ, suc, zero, ◌+◌, ◌*◌, ◌/◌, ◌%◌, ◌^◌, ◌<◌, Bool, true, false, cond, ◌&&◌, List, [], ◌∷◌, ◌++◌, length, refl, sym, ap, ap₂, ◌∙◌, arith, nat_eq, nat_lt, get_or, add-one, length-append, count_ones}
use Rattle.std.specs.Int.{bit_at}
use Rattle.std.proofs.lemmas.Bool.{lt-ltb, le-ltb}
use Rattle.std.proofs.lemmas.Nat.{ones_cat, zero_from_ones, ones_le_self, div_below, mod_below, pow_pos, shr_split}
use Rattle.std.proofs.lemmas.Nat.Bits.{bit_at_cat_low}
use Rattle.std.proofs.lemmas.Grind.{pow_more}
use Rattle.std.proofs.Math.Nat.{add-suc}
use Rattle.std.specs.Ordering.{nat_cmp}
use Rattle.std.specs.Cmp.{nat_cmp_total}
use Rattle.std.specs.FinSet as sets
use Rattle.cube_core.specs.Assignment.{bit}
use Rattle.cube_core.specs.Members.{Assignments, in_words, passing_below, members_of, AllBelow}
use Rattle.cube_core.specs.Rising.{rising}
use Rattle.cube_core.proofs.MembersLaws.{contains-passing_below}
use Rattle.cube_core.proofs.SetLaws.{in_words-at}

-- how many numbers below n pass a test
abbrev pub count_below : (ℕ → Bool) → ℕ → ℕ
count_below test zero = 0
count_below test (suc n) = cond (test n) 1 0 + count_below test n

pub count_below-same : (test other : ℕ → Bool) (n : ℕ) → ((k : ℕ) → k < n → test k ≡ other k) → count_below test n ≡ count_below other n
count_below-same test other zero same = refl
count_below-same test other (suc n) same =
    ap₂ (λ b m. cond b 1 0 + m) (same n (omega arith)) (count_below-same test other n (λ k h. same k (omega arith)))

pub count_below-add : (test : ℕ → Bool) (a b : ℕ) → count_below test (a + b) ≡ count_below test a + count_below (λ j. test (a + j)) b
count_below-add test a zero = let e : a + 0 ≡ a = omega arith in ap (count_below test) e ∙ omega arith
count_below-add test a (suc b) = let inner = count_below-add test a b in ap (count_below test) (add-suc a b) ∙ omega arith

-- ---- the members of a set

pub length-rising : (n : ℕ) (s : Assignments) → length (rising n s) ≡ count_below (sets.contains s) n
length-rising zero s = refl
length-rising (suc n) s =
    elim (sets.contains s n) as (λ b. length (cond b (rising n s ++ n ∷ []) (rising n s)) ≡ cond b 1 0 + count_below (sets.contains s) n) [
      | true ↦ let inner = length-rising n s in length-append (rising n s) (n ∷ []) ∙ omega arith
      | false ↦ let inner = length-rising n s in omega arith
    ]

pub len-passing_below : (test : ℕ → Bool) (n : ℕ) → sets.len (passing_below test n) ≡ count_below test n
len-passing_below test zero = sets.len-empty nat_cmp
len-passing_below test (suc n) =
    elim (test n) as (λ b. sets.len (cond b (sets.insert (passing_below test n) n) (passing_below test n)) ≡ cond b 1 0 + count_below test n) [
      | true ↦
          let inner = len-passing_below test n in
          let s : Assignments = passing_below test n in
          let new : sets.contains s n ≡ false = contains-passing_below test n n ∙ ap (λ b. b && test n) (le-ltb n n (omega arith)) in
          sets.len-insert nat_cmp_total s n ∙ ap (λ b. cond b (sets.len s) (sets.len s + 1)) new ∙ omega arith
      | false ↦ let inner = len-passing_below test n in omega arith
    ]

pub len-members_of : (words : List ℕ) → sets.len (members_of words) ≡ count_below (in_words words) 1024
unfolding members_of
len-members_of words = len-passing_below (in_words words) 1024

-- the members below an end, in rising order, are all members where none lies behind it
pub length-rising_all : (n : ℕ) (s : Assignments) → AllBelow n s → length (rising n s) ≡ sets.len s
length-rising_all n s all = length-rising n s ∙ sym (len-passing_below (sets.contains s) n) ∙ ap sets.len (sets.same_set nat_cmp_total sets.nat_cmp-IsAntisymmetric _ _ (λ x.
    contains-passing_below (sets.contains s) n x ∙ within (sets.contains s x) x (all x)))
  where
    within : (b : Bool) (x : ℕ) → (b ≡ true → x < n) → (nat_lt x n && b) ≡ b
    within true x h = ap (λ a. a && true) (lt-ltb x n (h refl))
    within false x h = and_none (nat_lt x n)
      where
        and_none : (a : Bool) → (a && false) ≡ false
        and_none true = refl
        and_none false = refl

-- ---- the ones of a word

count_ones_bit : (b : ℕ) → b < 2 → count_ones b ≡ cond (nat_eq (b % 2) 1) 1 0
count_ones_bit zero h = let none = ones_le_self 0 in omega arith
count_ones_bit (suc zero) h =
    let most = ones_le_self 1 in
    let some : count_ones 1 ≡ 0 → ⊥ = λ e. absurd (let no : 1 ≡ 0 = zero_from_ones 1 e in omega arith) in
    omega arith
count_ones_bit (suc (suc b)) h = absurd (omega arith)

pub count_ones-bits : (k n : ℕ) → n < 2 ^ k → count_ones n ≡ count_below (bit n) k
count_ones-bits zero n h = let most = ones_le_self n in omega arith
count_ones-bits (suc k) n h =
    let twice : 2 ^ (k + 1) ≡ 2 ^ k * 2 = pow_more 2 k in
    let whole : n < 2 ^ (k + 1) = rw add-one h in
    let high : n / 2 ^ k < 2 = div_below n (2 ^ k) 2 (pow_pos k) (omega arith) in
    let low : n % 2 ^ k < 2 ^ k = mod_below n (2 ^ k) (pow_pos k) in
    let e : n ≡ n / 2 ^ k * 2 ^ k + n % 2 ^ k = sym (shr_split n k) in
    ap count_ones e ∙ ones_cat k (n / 2 ^ k) (n % 2 ^ k) low
    ∙ ap₂ (λ a b. a + b) (count_ones_bit (n / 2 ^ k) high)
    (count_ones-bits k (n % 2 ^ k) low ∙ count_below-same (bit (n % 2 ^ k)) (bit n) k
    (λ i below. ap (λ m. nat_eq m 1) (sym (bit_at_cat_low (n / 2 ^ k) k (n % 2 ^ k) i below) ∙ ap (λ m. bit_at m i) (sym e))))

-- one more word
pub count_below-word : (words : List ℕ) (k : ℕ) → get_or words k 0 < 2 ^ 64
    → count_below (in_words words) (64 * (k + 1)) ≡ count_below (in_words words) (64 * k) + count_ones (get_or words k 0)
count_below-word words k fits =
    let e : 64 * (k + 1) ≡ 64 * k + 64 = omega arith in
    ap (count_below (in_words words)) e ∙ count_below-add (in_words words) (64 * k) 64
    ∙ ap (λ m. count_below (in_words words) (64 * k) + m)
    (count_below-same (λ j. in_words words (64 * k + j)) (bit (get_or words k 0)) 64 (λ j within. in_words-at words k j (64 * k + j) within refl)
    ∙ sym (count_ones-bits 64 (get_or words k 0) fits))
