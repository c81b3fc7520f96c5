-- The cubes that are kept of a list that covers a set.
use Rattle.std.proofs.Common.{◌≡◌, ℕ, suc, zero, ◌^◌, ◌<◌, ◌≤◌, inl, inr, Bool, true, false, cond, not, ◌||◌, List, [], ◌∷◌, ◌++◌, length, refl, sym, ◌∙◌, subst, arith}
use Rattle.std.specs.Prelude.{All}
use Rattle.std.specs.List.{remove}
use Rattle.std.specs.FinSet as set
use Rattle.std.proofs.lemmas.Bool.{cases_Bool, true≢false, or_cases, or_left, or_right}
use Rattle.std.proofs.lemmas.List.{append_assoc}
use Rattle.std.proofs.lemmas.List.Elements.{All-nil, All-cons, All-head, All-tail}
use Rattle.cube_core.specs.Cube.{Product, in_cube, each_below}
use Rattle.cube_core.specs.Members.{Assignments, AllBelow}
use Rattle.cube_core.proofs.Tools.{each_below-all}
use Rattle.cover_make.specs.Cubes.{has, Covers}
use Rattle.cover_make.specs.Cover.{covers, irredundant_part, IsMissed, IsIrredundant}
use Rattle.cover_make.proofs.CubesLaws.{has-append, has_left, has_right, Covers-from_subset, subset_from_Covers, Fails-each_below}

pub irredundant_part-All : (P : Product → Type 0) (inputs : ℕ) (need : Assignments) (before cubes : List Product) → All P cubes → All P (irredundant_part inputs need before cubes)
irredundant_part-All P inputs need before [] all = All-nil P
irredundant_part-All P inputs need before (c ∷ later) all =
    elim (covers inputs (before ++ later) need) as (λ b. All P (cond b (irredundant_part inputs need before later) (c ∷ irredundant_part inputs need (before ++ c ∷ []) later))) [
      | true ↦ irredundant_part-All P inputs need before later (All-tail P c later all)
      | false ↦ All-cons P c (irredundant_part inputs need (before ++ c ∷ []) later) (All-head P c later all) (irredundant_part-All P inputs need (before ++ c ∷ []) later (All-tail P c later all))
    ]

pub length-irredundant_part : (inputs : ℕ) (need : Assignments) (before cubes : List Product) → length (irredundant_part inputs need before cubes) ≤ length cubes
length-irredundant_part inputs need before [] = omega arith
length-irredundant_part inputs need before (c ∷ later) =
    let left : length (irredundant_part inputs need before later) ≤ length later = length-irredundant_part inputs need before later in
    let right : length (irredundant_part inputs need (before ++ c ∷ []) later) ≤ length later = length-irredundant_part inputs need (before ++ c ∷ []) later in
    elim (covers inputs (before ++ later) need) as (λ b. length (cond b (irredundant_part inputs need before later) (c ∷ irredundant_part inputs need (before ++ c ∷ []) later)) ≤ length (c ∷ later)) [
      | true ↦ omega arith
      | false ↦ omega arith
    ]

-- a list in two parts, of which one cube goes over
one_over : (before later : List Product) (c : Product) → (before ++ c ∷ []) ++ later ≡ before ++ c ∷ later
one_over before later c = append_assoc before (c ∷ []) later

-- what is kept covers what the list covers
pub irredundant_part-Covers : (inputs : ℕ) (need : Assignments) (before cubes : List Product) → Covers (before ++ cubes) need → Covers (before ++ irredundant_part inputs need before cubes) need
irredundant_part-Covers inputs need before [] all = all
irredundant_part-Covers inputs need before (c ∷ later) all =
    elim (covers inputs (before ++ later) need) as (λ b. covers inputs (before ++ later) need ≡ b → Covers (before ++ cond b (irredundant_part inputs need before later) (c ∷ irredundant_part inputs need (before ++ c ∷ []) later)) need) [
      | true ↦ λ e. irredundant_part-Covers inputs need before later (Covers-from_subset inputs (before ++ later) need e)
      | false ↦ λ e.
          subst (λ (cubes : List Product). Covers cubes need) (one_over before (irredundant_part inputs need (before ++ c ∷ []) later) c)
          (irredundant_part-Covers inputs need (before ++ c ∷ []) later (subst (λ (cubes : List Product). Covers cubes need) (sym (one_over before later c)) all))
    ] refl

-- what is kept of a list has no assignment that the list lacks
has-irredundant_part : (inputs : ℕ) (need : Assignments) (before cubes : List Product) (x : ℕ) → has (irredundant_part inputs need before cubes) x ≡ true → has cubes x ≡ true
has-irredundant_part inputs need before [] x one = one
has-irredundant_part inputs need before (c ∷ later) x one = by_test (covers inputs (before ++ later) need) (has-irredundant_part inputs need before later x) (has-irredundant_part inputs need (before ++ c ∷ []) later x) one
  where
    by_test : (b : Bool) → (has (irredundant_part inputs need before later) x ≡ true → has later x ≡ true) → (has (irredundant_part inputs need (before ++ c ∷ []) later) x ≡ true → has later x ≡ true)
        → has (cond b (irredundant_part inputs need before later) (c ∷ irredundant_part inputs need (before ++ c ∷ []) later)) x ≡ true → (in_cube c x || has later x) ≡ true
    by_test true left right h = or_right (in_cube c x) (has later x) (left h)
    by_test false left right h = elim (or_cases (in_cube c x) (has (irredundant_part inputs need (before ++ c ∷ []) later) x) h) [
      | inl here ↦ or_left (in_cube c x) (has later x) here
      | inr there ↦ or_right (in_cube c x) (has later x) (right there)
    ]

Covers-fewer : (before fewer more : List Product) (need : Assignments) → ((x : ℕ) → has fewer x ≡ true → has more x ≡ true) → Covers (before ++ fewer) need → Covers (before ++ more) need
Covers-fewer before fewer more need inner all x one = elim (or_cases (has before x) (has fewer x) (sym (has-append before fewer x) ∙ all x one)) [
  | inl here ↦ has_left before more x here
  | inr there ↦ has_right before more x (inner x there)
]

-- Without any one of the cubes behind those in front the set is not covered.
abbrev EachCounts : Assignments → List Product → List Product → Type 0
EachCounts need front cubes = (place : ℕ) → place < length cubes → Covers (front ++ remove cubes place) need → ⊥

-- without any one of the cubes that are kept the set is not covered
pub irredundant_part-remove : (inputs : ℕ) (need : Assignments) (before cubes : List Product) (place : ℕ) → AllBelow (2 ^ inputs) need
    → place < length (irredundant_part inputs need before cubes) → Covers (before ++ remove (irredundant_part inputs need before cubes) place) need → ⊥
irredundant_part-remove inputs need before [] place below within all = absurd (omega arith)
irredundant_part-remove inputs need before (c ∷ later) place below within all =
    by_test (covers inputs (before ++ later) need) refl (λ k h. irredundant_part-remove inputs need before later k below h) (λ k h. irredundant_part-remove inputs need (before ++ c ∷ []) later k below h) place within all
  where
    by_test : (b : Bool) → covers inputs (before ++ later) need ≡ b
        → EachCounts need before (irredundant_part inputs need before later) → EachCounts need (before ++ c ∷ []) (irredundant_part inputs need (before ++ c ∷ []) later)
        → EachCounts need before (cond b (irredundant_part inputs need before later) (c ∷ irredundant_part inputs need (before ++ c ∷ []) later))
    by_test true e left right place within all = left place within all
    by_test false e left right zero within all =
        let whole : Covers (before ++ later) need = Covers-fewer before (irredundant_part inputs need (before ++ c ∷ []) later) later need (has-irredundant_part inputs need (before ++ c ∷ []) later) all in
        true≢false (sym (subset_from_Covers inputs (before ++ later) need below whole) ∙ e)
    by_test false e left right (suc place) within all =
        right place (omega arith)
        (subst (λ (cubes : List Product). Covers cubes need) (sym (one_over before (remove (irredundant_part inputs need (before ++ c ∷ []) later) place) c)) all)

-- an assignment that the list does not have, where it does not cover the set
pub IsMissed-somewhere : (n : ℕ) (cubes : List Product) (need : Assignments) → AllBelow n need → (Covers cubes need → ⊥) → (x : ℕ) × IsMissed cubes need x
IsMissed-somewhere n cubes need below none =
    let test : ℕ → Bool = λ x. not (set.contains need x) || has cubes x in
    elim (cases_Bool (each_below test n)) [
      | inl all ↦ absurd (none (λ x one. needed (set.contains need x) (has cubes x) one (each_below-all test n all x (below x one))))
      | inr fails ↦
          let at = Fails-each_below test n fails in
          let both = missed (set.contains need at.at) (has cubes at.at) at.fails in
          (at.at, record { needed = both.0; missed = both.1 })
    ]
  where
    needed : (a b : Bool) → a ≡ true → (not a || b) ≡ true → b ≡ true
    needed true b one h = h
    needed false b one h = absurd (true≢false (sym one))

    missed : (a b : Bool) → (not a || b) ≡ false → (a ≡ true) × (b ≡ false)
    missed true b h = (refl, h)
    missed false b h = absurd (true≢false h)

pub irredundant_part-IsIrredundant : (inputs : ℕ) (need : Assignments) (cubes : List Product) → AllBelow (2 ^ inputs) need → IsIrredundant (irredundant_part inputs need [] cubes) need
irredundant_part-IsIrredundant inputs need cubes below place within =
    IsMissed-somewhere (2 ^ inputs) (remove (irredundant_part inputs need [] cubes) place) need below (irredundant_part-remove inputs need [] cubes place below within)
