-- The cubes that are found from the assignments of a set.
use Rattle.std.proofs.Common.{◌≡◌, ℕ, suc, zero, ◌+◌, ◌^◌, ◌<◌, ◌≤◌, inl, inr, Bool, true, false, cond, not, ◌&&◌, List, [], ◌∷◌, ◌++◌, length, refl, sym, ap, ap₂, ◌∙◌, arith, add-one, length-append, nat_lt, ◌||◌}
use Rattle.std.specs.Prelude.{All}
use Rattle.std.specs.FinSet as set
use Rattle.std.proofs.lemmas.Bool.{cases_Bool, cases_eq, cases_lt, and_parts, true≢false, lt-ltb, false_from_ne_true}
use Rattle.std.proofs.lemmas.List.Elements.{All-nil, All-push}
use Rattle.std.specs.Cmp.{nat_cmp_total}
use Rattle.cube_core.specs.Cube.{Product, in_cube, members_of_cube}
use Rattle.cube_core.specs.Members.{Assignments, AllBelow, IsLeast}
use Rattle.cube_core.proofs.Tools.{contains-members_of_cube, count_below, none_from_empty}
use Rattle.cover_make.specs.Cubes.{has}
use Rattle.cover_make.specs.Cover.{expansion_from, expansions_below}
use Rattle.cover_make.proofs.CubesLaws.{has-append, has_left, has_right, has_one}
use Rattle.cover_make.proofs.ExpansionLaws.{in_cube-expansion_from}

-- whether a cube is found from n
abbrev pub is_new : Assignments → List Product → ℕ → Bool
is_new need before n = set.contains need n && not (has before n)

-- what each cube has that is found from an assignment of need
pub expansions_below-All : (P : Product → Type 0) (inputs : ℕ) (need room : Assignments) (n : ℕ)
    → ((x : ℕ) → x < n → set.contains need x ≡ true → P (expansion_from inputs room x)) → All P (expansions_below inputs need room n)
expansions_below-All P inputs need room zero each = All-nil P
expansions_below-All P inputs need room (suc n) each =
    let before : List Product = expansions_below inputs need room n in
    let inner : All P before = expansions_below-All P inputs need room n (λ x below one. each x (omega arith) one) in
    elim (is_new need before n) as (λ b. is_new need before n ≡ b → All P (cond b (before ++ expansion_from inputs room n ∷ []) before)) [
      | true ↦ λ e. All-push P before (expansion_from inputs room n) inner (each n (omega arith) (and_parts _ _ e).0)
      | false ↦ λ e. inner
    ] refl

pub length-expansions_below : (inputs : ℕ) (need room : Assignments) (n : ℕ) → length (expansions_below inputs need room n) ≤ n
length-expansions_below inputs need room zero = omega arith
length-expansions_below inputs need room (suc n) =
    let before : List Product = expansions_below inputs need room n in
    let inner : length before ≤ n = length-expansions_below inputs need room n in
    elim (is_new need before n) as (λ b. length (cond b (before ++ expansion_from inputs room n ∷ []) before) ≤ suc n) [
      | true ↦ let more = length-append before (expansion_from inputs room n ∷ []) in omega arith
      | false ↦ omega arith
    ]

-- the cubes found have each assignment that they were found for
pub expansions_below-has : (inputs : ℕ) (need room : Assignments) (n x : ℕ) → x < n → set.contains need x ≡ true → has (expansions_below inputs need room n) x ≡ true
expansions_below-has inputs need room zero x below one = absurd (omega arith)
expansions_below-has inputs need room (suc n) x below one = elim (cases_eq x n) [
  | inr other ↦
      let inner : has before x ≡ true = expansions_below-has inputs need room n x (omega arith) one in
      elim (is_new need before n) as (λ b. has (cond b (before ++ expansion_from inputs room n ∷ []) before) x ≡ true) [
        | true ↦ has_left before (expansion_from inputs room n ∷ []) x inner
        | false ↦ inner
      ]
  | inl same ↦ elim (cases_Bool (has before n)) [
    | inl had ↦
        let new : is_new need before n ≡ false = ap₂ (λ a b. a && not b) (ap (set.contains need) (sym same) ∙ one) had in
        ap (λ b. has (cond b (before ++ expansion_from inputs room n ∷ []) before) x) new ∙ ap (has before) same ∙ had
    | inr lacked ↦
        let new : is_new need before n ≡ true = ap₂ (λ a b. a && not b) (ap (set.contains need) (sym same) ∙ one) lacked in
        ap (λ b. has (cond b (before ++ expansion_from inputs room n ∷ []) before) x) new ∙ ap (has (before ++ expansion_from inputs room n ∷ [])) same
        ∙ has_right before (expansion_from inputs room n ∷ []) n (has_one (expansion_from inputs room n) n (in_cube-expansion_from inputs room n))
  ]
]
  where
    before : List Product
    before = expansions_below inputs need room n

pub expansions_below-more : (inputs : ℕ) (need room : Assignments) (n : ℕ)
    → expansions_below inputs need room (n + 1) ≡ cond (is_new need (expansions_below inputs need room n) n) (expansions_below inputs need room n ++ expansion_from inputs room n ∷ []) (expansions_below inputs need room n)
expansions_below-more inputs need room n = rw add-one refl

-- where no cube is found from the assignments between, the cubes are the same
expansions_below-same : (inputs : ℕ) (need room : Assignments) (n m : ℕ) → n ≤ m → ((y : ℕ) → n ≤ y → y < m → is_new need (expansions_below inputs need room n) y ≡ false)
    → expansions_below inputs need room m ≡ expansions_below inputs need room n
expansions_below-same inputs need room n zero le none = let same : 0 ≡ n = omega arith in ap (expansions_below inputs need room) same
expansions_below-same inputs need room n (suc m) le none = elim (cases_eq n (suc m)) [
  | inl same ↦ ap (expansions_below inputs need room) (sym same)
  | inr other ↦
      let inner = expansions_below-same inputs need room n m (omega arith) (λ y low high. none y low (omega arith)) in
      let old : is_new need (expansions_below inputs need room m) m ≡ false = ap (λ cubes. is_new need cubes m) inner ∙ none m (omega arith) (omega arith) in
      ap (λ b. cond b (expansions_below inputs need room m ++ expansion_from inputs room m ∷ []) (expansions_below inputs need room m)) old ∙ inner
]

-- The cubes are those found from the assignments below an end, and the rest of need is left, none of it below the end.
pub record IsFoundBelow (inputs : ℕ) (need room left : Assignments) (cubes : List Product) (end : ℕ) : Type 0 where
  pub found : cubes ≡ expansions_below inputs need room end
  pub within : end ≤ 2 ^ inputs
  pub left_is : (x : ℕ) → set.contains left x ≡ is_new need cubes x
  pub behind : (x : ℕ) → set.contains left x ≡ true → end ≤ x

pub IsFoundBelow-none : (inputs : ℕ) (need room left : Assignments) → left ≡ need → IsFoundBelow inputs need room left [] 0
IsFoundBelow-none inputs need room left same = record {
  found = refl;
  within = omega arith;
  left_is = λ x. ap (λ s. set.contains s x) same ∙ sym (and_true (set.contains need x));
  behind = λ x one. omega arith;
}
  where
    and_true : (b : Bool) → (b && true) ≡ b
    and_true true = refl
    and_true false = refl

-- one more cube, from the least assignment that is left
pub IsFoundBelow-more : (inputs : ℕ) (need room left more : Assignments) (cubes : List Product) (c : Product) (end x : ℕ) → AllBelow (2 ^ inputs) need
    → IsFoundBelow inputs need room left cubes end → IsLeast left x → c ≡ expansion_from inputs room x → more ≡ set.difference left (members_of_cube inputs c)
    → IsFoundBelow inputs need room more (cubes ++ c ∷ []) (x + 1)
IsFoundBelow-more inputs need room left more cubes c end x below h least from rest = record {
  found = ap₂ (λ cs d. cs ++ d ∷ []) so_far from ∙ sym (expansions_below-more inputs need room x ∙ ap (λ b. cond b (expansions_below inputs need room x ++ expansion_from inputs room x ∷ []) (expansions_below inputs need room x)) new);
  within = omega (arith, low);
  left_is = more_is;
  behind = λ y one. elim (cases_lt y (x + 1)) [
    | inr after ↦ after
    | inl before ↦ elim (cases_eq y x) [
      | inl same ↦ absurd (true≢false (sym one ∙ ap (set.contains more) same ∙ gone))
      | inr other ↦ absurd (true≢false (sym (parts y one).0 ∙ least.least y (omega arith)))
    ]
  ];
}
  where
    member : is_new need cubes x ≡ true
    member = sym (h.left_is x) ∙ least.member

    low : x < 2 ^ inputs
    low = below x (and_parts _ _ member).0

    none : (y : ℕ) → end ≤ y → y < x → is_new need (expansions_below inputs need room end) y ≡ false
    none y after before = ap (λ cs. is_new need cs y) (sym h.found) ∙ sym (h.left_is y) ∙ least.least y before

    so_far : cubes ≡ expansions_below inputs need room x
    so_far = h.found ∙ sym (expansions_below-same inputs need room end x (h.behind x least.member) none)

    new : is_new need (expansions_below inputs need room x) x ≡ true
    new = ap (λ cs. is_new need cs x) (sym so_far) ∙ member

    contains_more : (y : ℕ) → set.contains more y ≡ (set.contains left y && not (nat_lt y (2 ^ inputs) && in_cube c y))
    contains_more y = ap (λ s. set.contains s y) rest ∙ set.contains-difference nat_cmp_total left (members_of_cube inputs c) y ∙ ap (λ b. set.contains left y && not b) (contains-members_of_cube inputs c y)

    parts : (y : ℕ) → set.contains more y ≡ true → (set.contains left y ≡ true) × (not (nat_lt y (2 ^ inputs) && in_cube c y) ≡ true)
    parts y one = and_parts _ _ (sym (contains_more y) ∙ one)

    gone : set.contains more x ≡ false
    gone = contains_more x ∙ ap (λ b. set.contains left x && not b) (ap₂ (λ a b. a && b) (lt-ltb x (2 ^ inputs) low) (ap (λ d. in_cube d x) from ∙ in_cube-expansion_from inputs room x)) ∙ and_none (set.contains left x)
      where
        and_none : (b : Bool) → (b && false) ≡ false
        and_none true = refl
        and_none false = refl

    more_is : (y : ℕ) → set.contains more y ≡ is_new need (cubes ++ c ∷ []) y
    more_is y =
        contains_more y ∙ ap (λ b. b && not (nat_lt y (2 ^ inputs) && in_cube c y)) (h.left_is y)
        ∙ both (set.contains need y) (has cubes y) (nat_lt y (2 ^ inputs)) (in_cube c y) (λ one. lt-ltb y (2 ^ inputs) (below y one))
        ∙ sym (ap (λ b. set.contains need y && not b) (has-append cubes (c ∷ []) y))
      where
        both : (a b l d : Bool) → (a ≡ true → l ≡ true) → ((a && not b) && not (l && d)) ≡ (a && not (b || (d || false)))
        both true true true d f = refl
        both true false true true f = refl
        both true false true false f = refl
        both true b false d f = absurd (true≢false (sym (f refl)))
        both false b l d f = refl

-- where nothing is left all cubes are found
pub IsFoundBelow-all : (inputs : ℕ) (need room left : Assignments) (cubes : List Product) (end : ℕ) → IsFoundBelow inputs need room left cubes end → left ≡ set.empty
    → cubes ≡ expansions_below inputs need room (2 ^ inputs)
IsFoundBelow-all inputs need room left cubes end h none =
    h.found ∙ sym (expansions_below-same inputs need room end (2 ^ inputs) h.within (λ y after before.
    ap (λ cs. is_new need cs y) (sym h.found) ∙ sym (h.left_is y) ∙ false_from_ne_true (set.contains left y) (none_from_empty left none y)))

-- ---- how many are left

count_below-least : (test fewer : ℕ → Bool) (n : ℕ) → ((k : ℕ) → fewer k ≡ true → test k ≡ true) → count_below fewer n ≤ count_below test n
count_below-least test fewer zero inner = omega arith
count_below-least test fewer (suc n) inner =
    let below : count_below fewer n ≤ count_below test n = count_below-least test fewer n inner in
    by_tests (fewer n) (test n) (inner n) (count_below fewer n) (count_below test n) below
  where
    by_tests : (a b : Bool) → (a ≡ true → b ≡ true) → (m k : ℕ) → m ≤ k → cond a 1 0 + m ≤ cond b 1 0 + k
    by_tests true true f m k le = omega arith
    by_tests true false f m k le = absurd (true≢false (sym (f refl)))
    by_tests false true f m k le = omega arith
    by_tests false false f m k le = omega arith

pub count_below-fewer : (test fewer : ℕ → Bool) (n x : ℕ) → ((k : ℕ) → fewer k ≡ true → test k ≡ true) → x < n → test x ≡ true → fewer x ≡ false → count_below fewer n < count_below test n
count_below-fewer test fewer zero x inner within one none = absurd (omega arith)
count_below-fewer test fewer (suc n) x inner within one none = elim (cases_eq x n) [
  | inl same ↦
      by_here (fewer n) (test n) (ap fewer (sym same) ∙ none) (ap test (sym same) ∙ one) (count_below fewer n) (count_below test n) (count_below-least test fewer n inner)
  | inr other ↦
      let below : count_below fewer n < count_below test n = count_below-fewer test fewer n x inner (omega arith) one none in
      by_tests (fewer n) (test n) (inner n) (count_below fewer n) (count_below test n) below
]
  where
    by_here : (a b : Bool) → a ≡ false → b ≡ true → (m k : ℕ) → m ≤ k → cond a 1 0 + m < cond b 1 0 + k
    by_here true b f g m k le = absurd (true≢false f)
    by_here false true f g m k le = omega arith
    by_here false false f g m k le = absurd (true≢false (sym g))

    by_tests : (a b : Bool) → (a ≡ true → b ≡ true) → (m k : ℕ) → m < k → cond a 1 0 + m < cond b 1 0 + k
    by_tests true true f m k le = omega arith
    by_tests true false f m k le = absurd (true≢false (sym (f refl)))
    by_tests false true f m k le = omega arith
    by_tests false false f m k le = omega arith

-- fewer are left after one more cube
pub left-smaller : (inputs : ℕ) (need room left more : Assignments) (cubes : List Product) (c : Product) (end x : ℕ) → AllBelow (2 ^ inputs) need
    → IsFoundBelow inputs need room left cubes end → IsLeast left x → c ≡ expansion_from inputs room x → more ≡ set.difference left (members_of_cube inputs c)
    → count_below (set.contains more) (2 ^ inputs) < count_below (set.contains left) (2 ^ inputs)
left-smaller inputs need room left more cubes c end x below h least from rest =
    count_below-fewer (set.contains left) (set.contains more) (2 ^ inputs) x
    (λ y one. (and_parts _ _ (sym (ap (λ s. set.contains s y) rest ∙ set.contains-difference nat_cmp_total left (members_of_cube inputs c) y) ∙ one)).0)
    low least.member gone
  where
    low : x < 2 ^ inputs
    low = below x (and_parts _ _ (sym (h.left_is x) ∙ least.member)).0

    gone : set.contains more x ≡ false
    gone = ap (λ s. set.contains s x) rest ∙ set.contains-difference nat_cmp_total left (members_of_cube inputs c) x
        ∙ ap (λ b. set.contains left x && not b) (contains-members_of_cube inputs c x ∙ ap₂ (λ a b. a && b) (lt-ltb x (2 ^ inputs) low) (ap (λ d. in_cube d x) from ∙ in_cube-expansion_from inputs room x))
        ∙ and_none (set.contains left x)
      where
        and_none : (b : Bool) → (b && false) ≡ false
        and_none true = refl
        and_none false = refl
