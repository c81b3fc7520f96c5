-- What the literals of cubes say of their assignments: of one cube built input by input, and of two.
use Rattle.std.proofs.Common.{◌≡◌, ◌≢◌, ℕ, suc, zero, ◌+◌, ◌%◌, ◌^◌, ◌<◌, ◌≤◌, inl, inr, ◌↔◌, Bool, true, false, cond, not, ◌&&◌, ◌||◌, refl, sym, ap, ap₂, ◌∙◌, arith, nat_eq, nat_lt, bit_and, bit_or, bit_xor, w16, None, Some, Option, is_some, unwrap_or}
use Rattle.std.specs.Int.{bit_at, trailing_zeros}
use Rattle.std.proofs.lemmas.Bool.{cases_lt, cases_eq, cases_Bool, lt-ltb, le-ltb, eq-eqb, ne_eqb, eqb-true, ltb-true, and_from, and_parts, true≢false, false≢true, not-true, false_from_ne_true}
use Rattle.std.proofs.lemmas.Bool.Decides.{nat_tests}
use Rattle.std.proofs.lemmas.Option.{cond_some, none-some}
use Rattle.std.proofs.lemmas.Nat.Bits.{bit_at-lt, bit_at-zero, bit_at_xor, bit_at_above, same_from_bits, bit_at-pow_same, bit_at-pow_other, bit_at-trailing_zeros}
use Rattle.std.proofs.lemmas.Nat.{and_le_r, or_lt, pow_below}
use Rattle.std.proofs.Math.Nat.{mod-eq_of_lt}
use Rattle.std.proofs.Math.Pow.{pow_mono}
use Rattle.std.specs.FinSet as sets
use Rattle.cube_core.specs.Assignment.{bit}
use Rattle.cube_core.specs.Members.{Assignments, IsWithin}
use Rattle.cube_core.specs.Cube.{Product, IsProduct, literal_of, agrees, each_below, in_cube, members_of_cube, ContainsCube, Meet, ClashAt, IsLeastClash, IsInside, HasLiterals}
use Rattle.cube_core.proofs.WordLaws.{bit-and, bit-or}
use Rattle.cube_core.proofs.CubeLaws.{in_cube-all, in_cube-from, each_below-all, each_below-from, literal_of-past, contains-members_of_cube}

-- ---- bits as truth values

pub same_from_tests : (a b : ℕ) → ((i : ℕ) → bit a i ≡ bit b i) → a ≡ b
same_from_tests a b same = same_from_bits a b (λ i. of_tests (bit_at a i) (bit_at b i) (bit_at-lt a i) (bit_at-lt b i) (same i))
  where
    of_tests : (m n : ℕ) → m < 2 → n < 2 → nat_eq m 1 ≡ nat_eq n 1 → m ≡ n
    of_tests m n hm hn e = grind (arith, nat_tests)

pub bit-zero : (i : ℕ) → bit 0 i ≡ false
bit-zero i = ap (λ n. nat_eq n 1) (bit_at-zero i)

pub bit-past : (a i : ℕ) → a < 1024 → 10 ≤ i → bit a i ≡ false
bit-past a i few past = ap (λ n. nat_eq n 1) (bit_at_above a 10 i few past)

-- the two values differ
abbrev differ : Bool → Bool → Bool
differ true b = not b
differ false b = b

bit-xor : (a b i : ℕ) → bit (bit_xor a b) i ≡ differ (bit a i) (bit b i)
bit-xor a b i = ap (λ n. nat_eq n 1) (bit_at_xor a b i) ∙ by_bits (bit_at a i) (bit_at b i) (bit_at-lt a i) (bit_at-lt b i)
  where
    by_bits : (m n : ℕ) → m < 2 → n < 2 → nat_eq ((m + n) % 2) 1 ≡ differ (nat_eq m 1) (nat_eq n 1)
    by_bits zero zero hm hn = refl
    by_bits zero (suc zero) hm hn = refl
    by_bits (suc zero) zero hm hn = refl
    by_bits (suc zero) (suc zero) hm hn = refl
    by_bits (suc (suc m)) n hm hn = absurd (omega arith)
    by_bits zero (suc (suc n)) hm hn = absurd (omega arith)
    by_bits (suc zero) (suc (suc n)) hm hn = absurd (omega arith)

-- ---- the literals of one cube

-- a cube has no value of an input that it does not care for
pub value_cares : (c : Product) → IsProduct c → (i : ℕ) → bit c.value i ≡ true → bit c.care i ≡ true
value_cares c h i one = (and_parts _ _ (sym (bit-and c.value c.care i) ∙ ap (λ n. bit n i) h.within ∙ one)).1

pub literal_of-some : (c : Product) (i : ℕ) (wanted : Bool) → literal_of c i ≡ Some wanted → (bit c.care i ≡ true) × (bit c.value i ≡ wanted)
literal_of-some c i wanted e = cond_some (bit c.care i) (bit c.value i) wanted e

pub literal_of-cares : (c : Product) (i : ℕ) → bit c.care i ≡ true → literal_of c i ≡ Some (bit c.value i)
literal_of-cares c i cares = ap (λ b. cond b (Some (bit c.value i)) None) cares

pub literal_of-free : (c : Product) (i : ℕ) → bit c.care i ≡ false → literal_of c i ≡ None
literal_of-free c i free = ap (λ b. cond b (Some (bit c.value i)) None) free

-- a literal is of one of the ten inputs
pub literal_of-few : (c : Product) → IsProduct c → (i : ℕ) (wanted : Bool) → literal_of c i ≡ Some wanted → i < 10
literal_of-few c h i wanted e = elim (cases_lt i 10) [
  | inl few ↦ few
  | inr past ↦ absurd (none-some wanted (sym (literal_of-past c h i past) ∙ e))
]

-- two cubes with the same literals are one
pub same_product : (c d : Product) → IsProduct c → IsProduct d → ((i : ℕ) → i < 10 → literal_of c i ≡ literal_of d i) → c ≡ d
same_product c d hc hd same = ap₂ (λ a v. record { care = a; value = v }) (same_from_tests c.care d.care cares) (same_from_tests c.value d.value values)
  where
    care_by : (e : Product) (i : ℕ) → bit e.care i ≡ is_some (literal_of e i)
    care_by e i = by_test (bit e.care i) (bit e.value i)
      where
        by_test : (b v : Bool) → b ≡ is_some (cond b (Some v) None)
        by_test true v = refl
        by_test false v = refl

    value_by : (e : Product) → IsProduct e → (i : ℕ) → bit e.value i ≡ unwrap_or (literal_of e i) false
    value_by e h i = by_test (bit e.care i) (bit e.value i) (value_cares e h i)
      where
        by_test : (b v : Bool) → (v ≡ true → b ≡ true) → v ≡ unwrap_or (cond b (Some v) None) false
        by_test true v inner = refl
        by_test false true inner = absurd (false≢true (inner refl))
        by_test false false inner = refl

    all : (i : ℕ) → literal_of c i ≡ literal_of d i
    all i = elim (cases_lt i 10) [ inl few ↦ same i few | inr past ↦ literal_of-past c hc i past ∙ sym (literal_of-past d hd i past) ]

    cares : (i : ℕ) → bit c.care i ≡ bit d.care i
    cares i = care_by c i ∙ ap is_some (all i) ∙ sym (care_by d i)

    values : (i : ℕ) → bit c.value i ≡ bit d.value i
    values i = value_by c hc i ∙ ap (λ l. unwrap_or l false) (all i) ∙ sym (value_by d hd i)

-- ---- a cube that is built input by input

same_true : (a b : Bool) → (a ≡ true → b ≡ true) → (b ≡ true → a ≡ true) → a ≡ b
same_true true b f g = sym (f refl)
same_true false true f g = g refl
same_true false false f g = refl

pub HasLiterals-none : (wanted : ℕ → Option Bool) (c : Product) → ((i : ℕ) → literal_of c i ≡ None) → HasLiterals wanted 0 c
HasLiterals-none wanted c free = record { each = λ i. free i ∙ sym (ap (λ b. cond b (wanted i) None) (le-ltb i 0 (omega arith))) }

pub HasLiterals-with : (wanted : ℕ → Option Bool) (n : ℕ) (c d : Product) (v : Bool) → HasLiterals wanted n c → wanted n ≡ Some v
    → ((i : ℕ) → literal_of d i ≡ cond (nat_eq i n) (Some v) (literal_of c i)) → HasLiterals wanted (n + 1) d
HasLiterals-with wanted n c d v before wants more = record {
  each = λ i. more i ∙ elim (cases_eq i n) [
    | inl same ↦
        ap (λ b. cond b (Some v) (literal_of c i)) (eq-eqb i n same) ∙ sym wants ∙ ap wanted (sym same)
        ∙ sym (ap (λ b. cond b (wanted i) None) (lt-ltb i (n + 1) (omega arith)))
    | inr other ↦
        let alike : nat_lt i n ≡ nat_lt i (n + 1) = grind (arith, nat_tests) in
        ap (λ b. cond b (Some v) (literal_of c i)) (ne_eqb i n other) ∙ before.each i ∙ ap (λ b. cond b (wanted i) None) alike
  ];
}

pub HasLiterals-skip : (wanted : ℕ → Option Bool) (n : ℕ) (c : Product) → HasLiterals wanted n c → wanted n ≡ None → HasLiterals wanted (n + 1) c
HasLiterals-skip wanted n c before wants = record {
  each = λ i. before.each i ∙ elim (cases_eq i n) [
    | inl same ↦
        ap (λ b. cond b (wanted i) None) (le-ltb i n (omega arith)) ∙ sym wants ∙ ap wanted (sym same)
        ∙ sym (ap (λ b. cond b (wanted i) None) (lt-ltb i (n + 1) (omega arith)))
    | inr other ↦
        let alike : nat_lt i n ≡ nat_lt i (n + 1) = grind (arith, nat_tests) in
        ap (λ b. cond b (wanted i) None) alike
  ];
}

-- an assignment is in it exactly where each of the inputs so far has the value that is wanted
pub in_cube-HasLiterals : (wanted : ℕ → Option Bool) (n : ℕ) (c : Product) → n ≤ 10 → HasLiterals wanted n c
    → (x : ℕ) → in_cube c x ≡ each_below (λ i. agrees (wanted i) (bit x i)) n
in_cube-HasLiterals wanted n c few has x = same_true (in_cube c x) (each_below (λ i. agrees (wanted i) (bit x i)) n)
    (λ one. each_below-from (λ i. agrees (wanted i) (bit x i)) n (λ i below.
    ap (λ l. agrees l (bit x i)) (sym (has.each i ∙ ap (λ b. cond b (wanted i) None) (lt-ltb i n below))) ∙ in_cube-all c x one i (omega arith)))
    (λ all. in_cube-from c x (λ i low. ap (λ l. agrees l (bit x i)) (has.each i) ∙ elim (cases_lt i n) [
      | inl below ↦ ap (λ b. agrees (cond b (wanted i) None) (bit x i)) (lt-ltb i n below) ∙ each_below-all (λ i. agrees (wanted i) (bit x i)) n all i below
      | inr above ↦ ap (λ b. agrees (cond b (wanted i) None) (bit x i)) (le-ltb i n above)
    ]))

-- one more literal of an input that was free
pub in_cube-with : (c d : Product) (n : ℕ) (v : Bool) → n < 10 → literal_of c n ≡ None → ((i : ℕ) → literal_of d i ≡ cond (nat_eq i n) (Some v) (literal_of c i))
    → (x : ℕ) → in_cube d x ≡ (in_cube c x && agrees (Some v) (bit x n))
in_cube-with c d n v few free more x = same_true (in_cube d x) (in_cube c x && agrees (Some v) (bit x n))
    (λ one. and_from _ _
    (in_cube-from c x (λ i low. elim (cases_eq i n) [
      | inl same ↦ ap (λ l. agrees l (bit x i)) (ap (literal_of c) same ∙ free)
      | inr other ↦ ap (λ l. agrees l (bit x i)) (sym (apart i other)) ∙ in_cube-all d x one i low
    ]))
    (ap (λ l. agrees l (bit x n)) (sym here) ∙ in_cube-all d x one n few))
    (λ both. let parts = and_parts (in_cube c x) (agrees (Some v) (bit x n)) both in
    in_cube-from d x (λ i low. elim (cases_eq i n) [
      | inl same ↦ ap (λ k. agrees (literal_of d k) (bit x k)) same ∙ ap (λ l. agrees l (bit x n)) here ∙ parts.1
      | inr other ↦ ap (λ l. agrees l (bit x i)) (apart i other) ∙ in_cube-all c x parts.0 i low
    ]))
  where
    here : literal_of d n ≡ Some v
    here = more n ∙ ap (λ b. cond b (Some v) (literal_of c n)) (eq-eqb n n refl)

    apart : (i : ℕ) → i ≢ n → literal_of d i ≡ literal_of c i
    apart i other = more i ∙ ap (λ b. cond b (Some v) (literal_of c i)) (ne_eqb i n other)

-- a cube that has lost a literal keeps its assignments
pub in_cube-without : (c d : Product) (n : ℕ) → ((i : ℕ) → literal_of d i ≡ cond (nat_eq i n) None (literal_of c i))
    → (x : ℕ) → in_cube c x ≡ true → in_cube d x ≡ true
in_cube-without c d n less x one = in_cube-from d x (λ i low. elim (cases_eq i n) [
  | inl same ↦ ap (λ l. agrees l (bit x i)) (less i ∙ ap (λ b. cond b None (literal_of c i)) (eq-eqb i n same))
  | inr other ↦ ap (λ l. agrees l (bit x i)) (less i ∙ ap (λ b. cond b None (literal_of c i)) (ne_eqb i n other)) ∙ in_cube-all c x one i low
])

-- ---- one cube in another

-- a cube whose literals the other has too contains it
pub contains-from_literals : (c d : Product) → ((i : ℕ) (wanted : Bool) → literal_of c i ≡ Some wanted → literal_of d i ≡ Some wanted)
    → (x : ℕ) → in_cube d x ≡ true → in_cube c x ≡ true
contains-from_literals c d has x one = in_cube-from c x (λ i low. by_literal i (literal_of c i) (has i) (in_cube-all d x one i low))
  where
    by_literal : (i : ℕ) (l : Option Bool) → ((wanted : Bool) → l ≡ Some wanted → literal_of d i ≡ Some wanted) → agrees (literal_of d i) (bit x i) ≡ true → agrees l (bit x i) ≡ true
    by_literal i None h other = refl
    by_literal i (Some wanted) h other = ap (λ l. agrees l (bit x i)) (sym (h wanted refl)) ∙ other

agrees_itself : (b v : Bool) → agrees (cond b (Some v) None) v ≡ true
agrees_itself false v = refl
agrees_itself true true = refl
agrees_itself true false = refl

agrees-Some : (wanted b : Bool) → agrees (Some wanted) b ≡ true → b ≡ wanted
agrees-Some true b h = h
agrees-Some false b h = not-true b h

pub value_few : (c : Product) → IsProduct c → c.value < 1024
value_few c h = let care = h.care in let inner : bit_and c.value c.care ≡ c.value = h.within in omega (arith, and_le_r c.value c.care)

-- the assignment that is 0 at each input that the cube does not care for, and the one that is 1 at one of them
in_cube-value : (c : Product) → in_cube c c.value ≡ true
in_cube-value c = in_cube-from c c.value (λ i few. agrees_itself (bit c.care i) (bit c.value i))

bit-other : (v i j : ℕ) → j ≢ i → bit (bit_or v (2 ^ i)) j ≡ bit v j
bit-other v i j other = bit-or v (2 ^ i) j ∙ ap (λ n. bit v j || nat_eq n 1) (bit_at-pow_other i j other) ∙ or_false (bit v j)
  where
    or_false : (b : Bool) → (b || false) ≡ b
    or_false true = refl
    or_false false = refl

bit-here : (v i : ℕ) → bit (bit_or v (2 ^ i)) i ≡ true
bit-here v i = bit-or v (2 ^ i) i ∙ ap (λ n. bit v i || nat_eq n 1) (bit_at-pow_same i) ∙ or_true (bit v i)
  where
    or_true : (b : Bool) → (b || true) ≡ true
    or_true true = refl
    or_true false = refl

in_cube-raised : (c : Product) (i : ℕ) → bit c.care i ≡ false → in_cube c (bit_or c.value (2 ^ i)) ≡ true
in_cube-raised c i free = in_cube-from c (bit_or c.value (2 ^ i)) (λ j few. elim (cases_eq j i) [
  | inl same ↦ ap (λ l. agrees l (bit (bit_or c.value (2 ^ i)) j)) (ap (literal_of c) same ∙ literal_of-free c i free)
  | inr other ↦ ap (agrees (literal_of c j)) (bit-other c.value i j other) ∙ agrees_itself (bit c.care j) (bit c.value j)
])

-- a cube that contains another has no literal that the other lacks
pub literals-from_contains : (c d : Product) → IsProduct c → IsProduct d → ContainsCube c d
    → (i : ℕ) (wanted : Bool) → literal_of c i ≡ Some wanted → literal_of d i ≡ Some wanted
literals-from_contains c d hc hd all i wanted e =
    let few : i < 10 = literal_of-few c hc i wanted e in
    let low : bit d.value i ≡ wanted =
    agrees-Some wanted (bit d.value i) (ap (λ l. agrees l (bit d.value i)) (sym e) ∙ in_cube-all c d.value (all d.value (value_few d hd) (in_cube-value d)) i few) in
    elim (cases_Bool (bit d.care i)) [
      | inl cares ↦ literal_of-cares d i cares ∙ ap Some low
      | inr free ↦
          let up : ℕ = bit_or d.value (2 ^ i) in
          let small : 2 ^ i < 2 ^ 10 = pow_below i 10 few in
          let high : true ≡ wanted =
          sym (bit-here d.value i) ∙ agrees-Some wanted (bit up i) (ap (λ l. agrees l (bit up i)) (sym e)
          ∙ in_cube-all c up (all up (or_lt 10 d.value (2 ^ i) (value_few d hd) small) (in_cube-raised d i free)) i few) in
          absurd (true≢false (sym (value_cares d hd i (low ∙ sym high)) ∙ free))
    ]

-- of two cubes that lose the same literal the one still contains the other
pub ContainsCube-without : (c d less fewer : Product) (n : ℕ) → IsProduct c → IsProduct d → ContainsCube c d
    → ((i : ℕ) → literal_of less i ≡ cond (nat_eq i n) None (literal_of c i)) → ((i : ℕ) → literal_of fewer i ≡ cond (nat_eq i n) None (literal_of d i))
    → ContainsCube less fewer
ContainsCube-without c d less fewer n hc hd all of_less of_fewer x few one =
    contains-from_literals less fewer (λ i wanted e. elim (cases_eq i n) [
      | inl same ↦ absurd (none-some wanted (sym (of_less i ∙ ap (λ b. cond b None (literal_of c i)) (eq-eqb i n same)) ∙ e))
      | inr other ↦
          let mine : literal_of c i ≡ Some wanted = sym (of_less i ∙ ap (λ b. cond b None (literal_of c i)) (ne_eqb i n other)) ∙ e in
          of_fewer i ∙ ap (λ b. cond b None (literal_of d i)) (ne_eqb i n other) ∙ literals-from_contains c d hc hd all i wanted mine
    ]) x one

-- the masks that tell it
pub contains-by_masks : (c d : Product) → IsProduct c → IsProduct d → (bit_and c.care d.care ≡ c.care) × (bit_and d.value c.care ≡ c.value) → ContainsCube c d
contains-by_masks c d hc hd masks x few one = contains-from_literals c d (λ i wanted e.
    let parts = literal_of-some c i wanted e in
    let cares : bit d.care i ≡ true = (and_parts _ _ (sym (bit-and c.care d.care i) ∙ ap (λ n. bit n i) masks.0 ∙ parts.0)).1 in
    let value : bit d.value i ≡ wanted =
    and_with (bit d.value i) (bit c.care i) parts.0 ∙ sym (bit-and d.value c.care i) ∙ ap (λ n. bit n i) masks.1 ∙ parts.1 in
    literal_of-cares d i cares ∙ ap Some value) x one
  where
    and_with : (a b : Bool) → b ≡ true → a ≡ (a && b)
    and_with true b e = sym e
    and_with false b e = refl

pub masks-from_contains : (c d : Product) → IsProduct c → IsProduct d → ContainsCube c d → (bit_and c.care d.care ≡ c.care) × (bit_and d.value c.care ≡ c.value)
masks-from_contains c d hc hd all = (
  same_from_tests (bit_and c.care d.care) c.care (λ i. bit-and c.care d.care i ∙ care_at i),
  same_from_tests (bit_and d.value c.care) c.value (λ i. bit-and d.value c.care i ∙ value_at i),
)
  where
    literal : (i : ℕ) → bit c.care i ≡ true → (bit d.care i ≡ true) × (bit d.value i ≡ bit c.value i)
    literal i cares = literal_of-some d i (bit c.value i) (literals-from_contains c d hc hd all i (bit c.value i) (literal_of-cares c i cares))

    care_at : (i : ℕ) → (bit c.care i && bit d.care i) ≡ bit c.care i
    care_at i = elim (cases_Bool (bit c.care i)) [
      | inl cares ↦ ap₂ (λ a b. a && b) cares (literal i cares).0 ∙ sym cares
      | inr free ↦ ap (λ a. a && bit d.care i) free ∙ sym free
    ]

    value_at : (i : ℕ) → (bit d.value i && bit c.care i) ≡ bit c.value i
    value_at i = elim (cases_Bool (bit c.care i)) [
      | inl cares ↦ and_true (bit d.value i) (bit c.care i) cares ∙ (literal i cares).1
      | inr free ↦ and_false (bit d.value i) (bit c.care i) free ∙ sym (false_from_ne_true (bit c.value i) (λ one. true≢false (sym (value_cares c hc i one) ∙ free)))
    ]
      where
        and_true : (a b : Bool) → b ≡ true → (a && b) ≡ a
        and_true true b e = e
        and_true false b e = refl

        and_false : (a b : Bool) → b ≡ false → (a && b) ≡ false
        and_false true b e = e
        and_false false b e = refl

-- ---- cubes that meet and cubes that clash

pub Meet-no_clash : (c d : Product) → IsProduct c → IsProduct d → Meet c d → (i : ℕ) → ClashAt c d i → ⊥
Meet-no_clash c d hc hd meet i clash =
    let few : i < 10 = literal_of-few c hc i clash.0 clash.1 in
    let x : ℕ = meet.0 in
    let one : bit x i ≡ clash.0 = agrees-Some clash.0 (bit x i) (ap (λ l. agrees l (bit x i)) (sym clash.1) ∙ in_cube-all c x meet.2 i few) in
    let other : bit x i ≡ not clash.0 = agrees-Some (not clash.0) (bit x i) (ap (λ l. agrees l (bit x i)) (sym clash.2) ∙ in_cube-all d x meet.3 i few) in
    apart clash.0 (sym one ∙ other)
  where
    apart : (b : Bool) → b ≡ not b → ⊥
    apart true e = true≢false e
    apart false e = false≢true e

-- without a clash the assignment that is 1 where one of them wants it is in both
pub no_clash-Meet : (c d : Product) → IsProduct c → IsProduct d → ((i : ℕ) → ClashAt c d i → ⊥) → Meet c d
no_clash-Meet c d hc hd none =
    let x : ℕ = bit_or c.value d.value in (
      x,
      or_lt 10 c.value d.value (value_few c hc) (value_few d hd),
      in_cube-from c x (λ i few. ap (agrees (literal_of c i)) (bit-or c.value d.value i)
          ∙ first_of_both (bit c.care i) (bit c.value i) (bit d.care i) (bit d.value i) (value_cares d hd i) (none i)),
      in_cube-from d x (λ i few. ap (agrees (literal_of d i)) (bit-or c.value d.value i)
          ∙ second_of_both (bit c.care i) (bit c.value i) (bit d.care i) (bit d.value i) (value_cares c hc i) (none i)),
    )
  where
    first_of_both : (b v e w : Bool) → (w ≡ true → e ≡ true) → ((wanted : Bool) × (cond b (Some v) None ≡ Some wanted) × (cond e (Some w) None ≡ Some (not wanted)) → ⊥) → agrees (cond b (Some v) None) (v || w) ≡ true
    first_of_both false v e w inner none = refl
    first_of_both true true e w inner none = refl
    first_of_both true false e false inner none = refl
    first_of_both true false true true inner none = absurd (none (false, refl, refl))
    first_of_both true false false true inner none = absurd (false≢true (inner refl))

    second_of_both : (b v e w : Bool) → (v ≡ true → b ≡ true) → ((wanted : Bool) × (cond b (Some v) None ≡ Some wanted) × (cond e (Some w) None ≡ Some (not wanted)) → ⊥) → agrees (cond e (Some w) None) (v || w) ≡ true
    second_of_both b v false w inner none = refl
    second_of_both b true true true inner none = refl
    second_of_both b false true true inner none = refl
    second_of_both b false true false inner none = refl
    second_of_both true true true false inner none = absurd (none (true, refl, refl))
    second_of_both false true true false inner none = absurd (false≢true (inner refl))

-- the inputs at which they clash, as the bits of a mask
abbrev pub clash_mask : Product → Product → ℕ
clash_mask c d = bit_and (bit_and (bit_xor c.value d.value) c.care) d.care

clash_bit : (c d : Product) (i : ℕ) → bit (clash_mask c d) i ≡ ((differ (bit c.value i) (bit d.value i) && bit c.care i) && bit d.care i)
clash_bit c d i =
    bit-and (bit_and (bit_xor c.value d.value) c.care) d.care i
    ∙ ap (λ b. b && bit d.care i) (bit-and (bit_xor c.value d.value) c.care i ∙ ap (λ b. b && bit c.care i) (bit-xor c.value d.value i))

pub clash-from_mask : (c d : Product) (i : ℕ) → bit (clash_mask c d) i ≡ true → ClashAt c d i
clash-from_mask c d i one =
    let outer = and_parts _ _ (sym (clash_bit c d i) ∙ one) in
    let inner = and_parts _ _ outer.0 in
    (bit c.value i, literal_of-cares c i inner.1, literal_of-cares d i outer.1 ∙ ap Some (other_value (bit c.value i) (bit d.value i) inner.0))
  where
    other_value : (a b : Bool) → differ a b ≡ true → b ≡ not a
    other_value true b e = not-true b e
    other_value false b e = e

pub mask-from_clash : (c d : Product) (i : ℕ) → ClashAt c d i → bit (clash_mask c d) i ≡ true
mask-from_clash c d i clash =
    let one = literal_of-some c i clash.0 clash.1 in
    let other = literal_of-some d i (not clash.0) clash.2 in
    clash_bit c d i ∙ ap₂ (λ a b. a && b) (ap₂ (λ a b. a && b) (ap₂ differ one.1 other.1 ∙ apart clash.0) one.0) other.0
  where
    apart : (b : Bool) → differ b (not b) ≡ true
    apart true = refl
    apart false = refl

pub no_clash-from_mask : (c d : Product) → clash_mask c d ≡ 0 → (i : ℕ) → ClashAt c d i → ⊥
no_clash-from_mask c d zeros i clash = true≢false (sym (mask-from_clash c d i clash) ∙ ap (λ n. bit n i) zeros ∙ bit-zero i)

pub mask-from_no_clash : (c d : Product) → ((i : ℕ) → ClashAt c d i → ⊥) → clash_mask c d ≡ 0
mask-from_no_clash c d none = same_from_tests (clash_mask c d) 0 (λ i. false_from_ne_true (bit (clash_mask c d) i) (λ one. none i (clash-from_mask c d i one)) ∙ sym (bit-zero i))

pub IsLeastClash-mask : (c d : Product) → IsProduct c → IsProduct d → (clash_mask c d ≡ 0 → ⊥)
    → (trailing_zeros w16 (clash_mask c d) < 16) × IsLeastClash c d (trailing_zeros w16 (clash_mask c d))
IsLeastClash-mask c d hc hd some =
    let mask : ℕ = clash_mask c d in
    let care = hd.care in
    let fits : mask < 2 ^ 16 = omega (arith, and_le_r (bit_and (bit_xor c.value d.value) c.care) d.care) in
    let low = bit_at-trailing_zeros w16 mask (omega arith) fits in
    let here : ClashAt c d (trailing_zeros w16 mask) = clash-from_mask c d (trailing_zeros w16 mask) (ap (λ n. nat_eq n 1) low.1) in (
      low.0,
      record {
        few = literal_of-few c hc (trailing_zeros w16 mask) here.0 here.1;
        here = here;
        least = λ j less clash. true≢false (sym (mask-from_clash c d j clash) ∙ ap (λ n. nat_eq n 1) (low.2 j less));
      },
    )

-- ---- a cube in a set

pub IsInside-IsWithin : (inputs : ℕ) (c : Product) (s : Assignments) → IsWithin (members_of_cube inputs c) s ↔ IsInside inputs c s
IsInside-IsWithin inputs c s = (
  λ all x below one. all x (contains-members_of_cube inputs c x ∙ ap₂ (λ a b. a && b) (lt-ltb x (2 ^ inputs) below) one),
  λ all x one. let both = and_parts _ _ (sym (contains-members_of_cube inputs c x) ∙ one) in all x (ltb-true x (2 ^ inputs) both.0) both.1,
)

-- a smaller cube is inside where a larger one is
pub IsInside-smaller : (inputs : ℕ) (c d : Product) (s : Assignments) → inputs ≤ 10 → ContainsCube c d → IsInside inputs c s → IsInside inputs d s
IsInside-smaller inputs c d s few larger inside x below one = let small : 2 ^ inputs ≤ 2 ^ 10 = pow_mono few in inside x below (larger x (omega arith) one)

-- the cube of one assignment is inside exactly where the assignment is in the set
pub IsInside-point : (inputs x : ℕ) (c : Product) (s : Assignments) → x < 2 ^ inputs → ((y : ℕ) → in_cube c y ≡ nat_eq (y % 2 ^ inputs) (x % 2 ^ inputs))
    → IsInside inputs c s ↔ (sets.contains s x ≡ true)
IsInside-point inputs x c s within members = (
  λ inside. inside x within (members x ∙ eq-eqb _ _ refl),
  λ one y below member.
      let same : y ≡ x = sym (mod-eq_of_lt below) ∙ eqb-true (y % 2 ^ inputs) (x % 2 ^ inputs) (sym (members y) ∙ member) ∙ mod-eq_of_lt within in
      ap (sets.contains s) same ∙ one,
)
