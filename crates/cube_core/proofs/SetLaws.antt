-- Which sets of assignments are equal, empty or below an end, by their members.
use Rattle.std.proofs.Common.{◌≡◌, ℕ, ◌+◌, ◌*◌, ◌/◌, ◌%◌, ◌^◌, ◌<◌, inl, inr, ◌↔◌, true, not, ◌&&◌, ◌||◌, List, refl, sym, ap, ap₂, ◌∙◌, arith, nat_eq, nat_lt, get_or, w64, Some, None, Option, subst}
use Rattle.std.proofs.lemmas.Bool.{cases_Bool, ltb-true, cases_lt, lt-ltb, true≢false, false_from_ne_true, not-true, and_parts}
use Rattle.std.proofs.lemmas.Nat.Bits.{bit_at-trailing_zeros, bit_at-zero}
use Rattle.std.specs.Int.{trailing_zeros}
use Rattle.std.specs.Option.{SomeIff, IsNone, IfSome}
use Rattle.std.specs.Ordering.{nat_cmp}
use Rattle.std.specs.Cmp.{nat_cmp_total}
use Rattle.std.specs.FinSet as sets
use Rattle.std.specs.FinSet.{contains-union, contains-intersection, contains-difference}
use Rattle.cube_core.specs.Assignment.{bit}
use Rattle.cube_core.specs.Cube.{Product, in_cube, members_of_cube}
use Rattle.cube_core.specs.Members.{Assignments, in_words, members_of, complement_of, all_of, AllBelow, AreDisjoint, IsWithin, IsLeast}
use Rattle.cube_core.proofs.MembersLaws.{contains-complement_of, contains-insert_nat}
use Rattle.cube_core.proofs.CubeLaws.{contains-members_of_cube}
use Rattle.cube_core.proofs.WordLaws.{contains-members_of_below, members_of-same, contains-all_of}

pub SomeIff-some : {X : Type 0} (r : Option X) (P : Type 0) (v : X) → SomeIff r P v → P → r ≡ Some v
SomeIff-some None P v h p = absurd (h p)
SomeIff-some (Some x) P v h p = ap Some h.1

-- a set with no member
pub empty_from_none : (s : Assignments) → ((x : ℕ) → sets.contains s x ≡ true → ⊥) → s ≡ sets.empty
empty_from_none s none = sets.same_set nat_cmp_total sets.nat_cmp-IsAntisymmetric _ _ (λ x. false_from_ne_true (sets.contains s x) (none x) ∙ sym (sets.contains-empty nat_cmp x))

pub none_from_empty : (s : Assignments) → s ≡ sets.empty → (x : ℕ) → sets.contains s x ≡ true → ⊥
none_from_empty s e x one = true≢false (sym one ∙ ap (λ t. sets.contains t x) e ∙ sets.contains-empty nat_cmp x)

-- words of no bit at all
pub members_of-zeros : (words : List ℕ) → ((k : ℕ) → k < 16 → get_or words k 0 ≡ 0) → members_of words ≡ sets.empty
members_of-zeros words zeros = members_of-same words sets.empty
    (λ x below. ap (λ w. bit w (x % 64)) (zeros (x / 64) (omega arith)) ∙ ap (λ n. nat_eq n 1) (bit_at-zero (x % 64)) ∙ sym (sets.contains-empty nat_cmp x))
    (λ x above. sets.contains-empty nat_cmp x)

-- the bit of an assignment that is given by its word and its place there
pub in_words-at : (words : List ℕ) (k j x : ℕ) → j < 64 → x ≡ 64 * k + j → in_words words x ≡ bit (get_or words k 0) j
in_words-at words k j x within place =
    let word : x / 64 ≡ k = omega arith in
    let rest : x % 64 ≡ j = omega arith in
    ap (λ i. bit (get_or words i 0) (x % 64)) word ∙ ap (bit (get_or words k 0)) rest

-- the first word with a bit has the least member
pub IsLeast-first : (words : List ℕ) (k : ℕ) → k < 16 → ((i : ℕ) → i < k → get_or words i 0 ≡ 0) → (get_or words k 0 ≡ 0 → ⊥) → get_or words k 0 < 2 ^ 64
    → (trailing_zeros w64 (get_or words k 0) < 64) × IsLeast (members_of words) (64 * k + trailing_zeros w64 (get_or words k 0))
IsLeast-first words k within zeros some fits =
    let word : ℕ = get_or words k 0 in
    let t : ℕ = trailing_zeros w64 word in
    let low = bit_at-trailing_zeros w64 word (omega arith) fits in
    let below : t < 64 = low.0 in (
      below,
      record {
        member = contains-members_of_below words (64 * k + t) (omega arith) ∙ in_words-at words k t (64 * k + t) below refl ∙ ap (λ n. nat_eq n 1) low.1;
        least = λ y less. contains-members_of_below words y (omega arith) ∙ elim (cases_lt (y / 64) k) [
          | inl before ↦ ap (λ w. bit w (y % 64)) (zeros (y / 64) before) ∙ ap (λ n. nat_eq n 1) (bit_at-zero (y % 64))
          | inr here ↦ in_words-at words k (y % 64) y (omega arith) (omega arith) ∙ ap (λ n. nat_eq n 1) (low.2 (y % 64) (omega arith))
        ];
      },
    )

pub IsLeast-not_empty : (s : Assignments) (x : ℕ) → IsLeast s x → s ≡ sets.empty → ⊥
IsLeast-not_empty s x h e = none_from_empty s e x h.member

-- the set of all but those of a set
pub minus-complement_of : (inputs : ℕ) (s : Assignments) → sets.difference (all_of inputs) s ≡ complement_of inputs s
minus-complement_of inputs s = sets.same_set nat_cmp_total sets.nat_cmp-IsAntisymmetric _ _ (λ x.
    sets.contains-difference nat_cmp_total (all_of inputs) s x ∙ ap (λ b. b && not (sets.contains s x)) (contains-all_of inputs x) ∙ sym (contains-complement_of inputs s x))

pub IsWithin-minus : (s t : Assignments) → (sets.difference s t ≡ sets.empty) ↔ IsWithin s t
IsWithin-minus s t = (
  λ e x one. elim (cases_Bool (sets.contains t x)) [
    | inl member ↦ member
    | inr outside ↦ absurd (none_from_empty _ e x (left x ∙ ap₂ (λ p q. p && not q) one outside))
  ],
  λ all. empty_from_none _ (λ x one. let both = and_parts _ _ (sym (left x) ∙ one) in true≢false (sym (all x both.0) ∙ not-true _ both.1)),
)
  where
    left : (x : ℕ) → sets.contains (sets.difference s t) x ≡ (sets.contains s x && not (sets.contains t x))
    left x = sets.contains-difference nat_cmp_total s t x

-- nothing but assignments of so many inputs
pub AllBelow-IsWithin : (inputs : ℕ) (s : Assignments) → IsWithin s (all_of inputs) ↔ AllBelow (2 ^ inputs) s
AllBelow-IsWithin inputs s = (
  λ all x one. ltb-true x (2 ^ inputs) (sym (contains-all_of inputs x) ∙ all x one),
  λ all x one. contains-all_of inputs x ∙ lt-ltb x (2 ^ inputs) (all x one),
)

pub AreDisjoint-and : (s t : Assignments) → (sets.intersection s t ≡ sets.empty) ↔ AreDisjoint s t
AreDisjoint-and s t = (
  λ e x one other. none_from_empty _ e x (sets.contains-intersection nat_cmp_total s t x ∙ ap₂ (λ p q. p && q) one other),
  λ apart. empty_from_none _ (λ x one. let both = and_parts _ _ (sym (sets.contains-intersection nat_cmp_total s t x) ∙ one) in apart x both.0 both.1),
)

-- the answer of a search that has found the least member
pub found_none : (s : Assignments) (r : Option ℕ) (x : ℕ) → IsLeast s x → x < 1024 → SomeIff r (x < 1024) x → IsNone r ↔ (s ≡ sets.empty)
found_none s None x least below h = absurd (h below)
found_none s (Some y) x least below h = (λ e. absurd (true≢false e), λ e. absurd (IsLeast-not_empty s x least e))

pub found_some : (s : Assignments) (r : Option ℕ) (x : ℕ) → IsLeast s x → SomeIff r (x < 1024) x → IfSome r (IsLeast s)
found_some s None x least h = tt
found_some s (Some y) x least h = subst (IsLeast s) (sym h.1) least

-- what is in a table that a call gives, for `simp`
pub ruleset table_members = (contains-all_of, contains-complement_of, contains-members_of_cube, contains-insert_nat, contains-union, contains-intersection, contains-difference, nat_cmp_total)

pub contains-add_cube : (s : Assignments) (inputs : ℕ) (c : Product) (x : ℕ)
    → sets.contains (sets.union s (members_of_cube inputs c)) x ≡ (sets.contains s x || (nat_lt x (2 ^ inputs) && in_cube c x))
contains-add_cube s inputs c x = simp table_members
