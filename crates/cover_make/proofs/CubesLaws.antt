-- Which assignments lists of cubes have.
use Rattle.std.proofs.Common.{◌≡◌, ℕ, suc, zero, ◌+◌, ◌^◌, ◌<◌, inl, inr, Bool, true, false, ◌&&◌, ◌||◌, List, [], ◌∷◌, ◌++◌, length, get_or, take, refl, sym, ap, ap₂, ◌∙◌, arith, nat_lt}
use Rattle.std.specs.FinSet as set
use Rattle.std.specs.Cmp.{nat_cmp_total}
use Rattle.std.specs.Ordering.{nat_cmp}
use Rattle.std.proofs.lemmas.Bool.{lt-ltb, and_parts, or_left, or_right, cases_Bool, true≢false}
use Rattle.std.proofs.lemmas.List.{take_more}
use Rattle.std.proofs.lemmas.List.Folds.{list_any-append}
use Rattle.cube_core.specs.Cube.{Product, in_cube, members_of_cube, each_below}
use Rattle.cube_core.specs.Members.{Assignments, AllBelow}
use Rattle.cube_core.proofs.Tools.{contains-passing_below, contains-members_of_cube}
use Rattle.cover_make.specs.Cubes.{has, table_of, Covers}

pub has-append : (before after : List Product) (x : ℕ) → has (before ++ after) x ≡ (has before x || has after x)
has-append before after x = list_any-append (λ c. in_cube c x) before after

pub has_left : (before after : List Product) (x : ℕ) → has before x ≡ true → has (before ++ after) x ≡ true
has_left before after x one = has-append before after x ∙ or_left (has before x) (has after x) one

pub has_right : (before after : List Product) (x : ℕ) → has after x ≡ true → has (before ++ after) x ≡ true
has_right before after x one = has-append before after x ∙ or_right (has before x) (has after x) one

pub has_one : (c : Product) (x : ℕ) → in_cube c x ≡ true → has (c ∷ []) x ≡ true
has_one c x one = or_left (in_cube c x) false one

pub contains-table_of : (inputs : ℕ) (cubes : List Product) (x : ℕ) → set.contains (table_of inputs cubes) x ≡ (nat_lt x (2 ^ inputs) && has cubes x)
unfolding table_of
contains-table_of inputs cubes x = contains-passing_below (has cubes) (2 ^ inputs) x

pub table_of-nil : (inputs : ℕ) → table_of inputs [] ≡ set.empty
table_of-nil inputs = set.same_set nat_cmp_total set.nat_cmp-IsAntisymmetric _ _ (λ x. contains-table_of inputs [] x ∙ none (nat_lt x (2 ^ inputs)) ∙ sym (set.contains-empty nat_cmp x))
  where
    none : (b : Bool) → (b && false) ≡ false
    none true = refl
    none false = refl

-- one more cube at the end
pub table_of-push : (inputs : ℕ) (cubes : List Product) (c : Product) → table_of inputs (cubes ++ c ∷ []) ≡ set.union (table_of inputs cubes) (members_of_cube inputs c)
table_of-push inputs cubes c = set.same_set nat_cmp_total set.nat_cmp-IsAntisymmetric _ _ (λ x.
    contains-table_of inputs (cubes ++ c ∷ []) x ∙ ap (λ b. nat_lt x (2 ^ inputs) && b) (has-append cubes (c ∷ []) x)
    ∙ apart (nat_lt x (2 ^ inputs)) (has cubes x) (in_cube c x)
    ∙ sym (set.contains-union nat_cmp_total (table_of inputs cubes) (members_of_cube inputs c) x
    ∙ ap₂ (λ a b. a || b) (contains-table_of inputs cubes x) (contains-members_of_cube inputs c x)))
  where
    apart : (a b c : Bool) → (a && (b || (c || false))) ≡ ((a && b) || (a && c))
    apart true true c = refl
    apart true false true = refl
    apart true false false = refl
    apart false b c = refl

-- one more cube at the front
pub table_of-cons : (inputs : ℕ) (c : Product) (cubes : List Product) → table_of inputs (c ∷ cubes) ≡ set.union (table_of inputs cubes) (members_of_cube inputs c)
table_of-cons inputs c cubes = set.same_set nat_cmp_total set.nat_cmp-IsAntisymmetric _ _ (λ x.
    contains-table_of inputs (c ∷ cubes) x
    ∙ apart (nat_lt x (2 ^ inputs)) (has cubes x) (in_cube c x)
    ∙ sym (set.contains-union nat_cmp_total (table_of inputs cubes) (members_of_cube inputs c) x
    ∙ ap₂ (λ a b. a || b) (contains-table_of inputs cubes x) (contains-members_of_cube inputs c x)))
  where
    apart : (a b c : Bool) → (a && (c || b)) ≡ ((a && b) || (a && c))
    apart true true true = refl
    apart true true false = refl
    apart true false true = refl
    apart true false false = refl
    apart false b c = refl

pub table_of-append : (inputs : ℕ) (before after : List Product) → table_of inputs (before ++ after) ≡ set.union (table_of inputs before) (table_of inputs after)
table_of-append inputs before after = set.same_set nat_cmp_total set.nat_cmp-IsAntisymmetric _ _ (λ x.
    contains-table_of inputs (before ++ after) x ∙ ap (λ b. nat_lt x (2 ^ inputs) && b) (has-append before after x)
    ∙ apart (nat_lt x (2 ^ inputs)) (has before x) (has after x)
    ∙ sym (set.contains-union nat_cmp_total (table_of inputs before) (table_of inputs after) x
    ∙ ap₂ (λ a b. a || b) (contains-table_of inputs before x) (contains-table_of inputs after x)))
  where
    apart : (a b c : Bool) → (a && (b || c)) ≡ ((a && b) || (a && c))
    apart true b c = refl
    apart false b c = refl

-- one turn of a loop that adds the cubes to a table
pub table_of-grown : (inputs : ℕ) (cubes : List Product) (i : ℕ) (c : Product) (old new : Assignments) → i < length cubes → c ≡ get_or cubes i c
    → old ≡ table_of inputs (take i cubes) → new ≡ set.union old (members_of_cube inputs c) → new ≡ table_of inputs (take (i + 1) cubes)
table_of-grown inputs cubes i c old new within is before now =
    now ∙ ap₂ (λ s d. set.union s (members_of_cube inputs d)) before is
    ∙ sym (ap (table_of inputs) (take_more cubes i c within) ∙ table_of-push inputs (take i cubes) (get_or cubes i c))

-- ---- a list that covers a set

pub Covers-from_subset : (inputs : ℕ) (cubes : List Product) (need : Assignments) → set.is_subset need (table_of inputs cubes) ≡ true → Covers cubes need
Covers-from_subset inputs cubes need all x one =
    (and_parts _ _ (sym (contains-table_of inputs cubes x) ∙ set.is_subset-contains nat_cmp_total need (table_of inputs cubes) all x one)).1

pub subset_from_Covers : (inputs : ℕ) (cubes : List Product) (need : Assignments) → AllBelow (2 ^ inputs) need → Covers cubes need → set.is_subset need (table_of inputs cubes) ≡ true
subset_from_Covers inputs cubes need below all =
    set.contains-is_subset nat_cmp_total need (table_of inputs cubes) (λ x one. contains-table_of inputs cubes x ∙ ap₂ (λ a b. a && b) (lt-ltb x (2 ^ inputs) (below x one)) (all x one))

-- what a test fails at, where it does not pass at each number below n
pub record Fails (test : ℕ → Bool) (n : ℕ) : Type 0 where
  pub at : ℕ
  pub below : at < n
  pub fails : test at ≡ false

pub Fails-each_below : (test : ℕ → Bool) (n : ℕ) → each_below test n ≡ false → Fails test n
Fails-each_below test zero e = absurd (true≢false e)
Fails-each_below test (suc n) e = elim (cases_Bool (test n)) [
  | inl passes ↦
      let inner = Fails-each_below test n (sym (ap (λ b. b && each_below test n) passes) ∙ e) in
      let below = inner.below in
      record { at = inner.at; below = omega arith; fails = inner.fails }
  | inr fails ↦ record { at = n; below = omega arith; fails = fails }
]
