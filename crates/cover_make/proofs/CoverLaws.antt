-- The cover of a set within a room, and that of all that a list of cubes leaves.
use Rattle.std.proofs.Common.{◌≡◌, ℕ, ◌/◌, ◌%◌, ◌^◌, ◌<◌, ◌≤◌, Bool, true, ◌&&◌, List, [], length, get_or, refl, sym, ap, ap₂, ◌∙◌, arith, nat_eq, None, Some, Option}
use Rattle.std.specs.Prelude.{All}
use Rattle.std.specs.Int.{bit_at}
use Rattle.std.specs.FinSet as set
use Rattle.std.proofs.Math.Pow.{pow_mono}
use Rattle.std.proofs.lemmas.Nat.{shr_split, mod_below, pow_pos}
use Rattle.std.proofs.lemmas.Nat.Bits.{bit_at_cat_low}
use Rattle.std.proofs.lemmas.Bool.{and_parts, true≢false, not-true, lt-ltb}
use Rattle.std.proofs.lemmas.List.Folds.{list_any_at}
use Rattle.cube_core.specs.Assignment.{bit}
use Rattle.cube_core.specs.Cube.{Product, IsProduct, literal_of, agrees, in_cube, IsInside, Meet}
use Rattle.cube_core.specs.Members.{Assignments, AllBelow, IsWithin}
use Rattle.cube_core.proofs.Tools.{in_cube-all, in_cube-from, IsProduct-point, literals-point, in_cube-point, IsInside-point, contains-complement_of, complement_of-AllBelow}
use Rattle.cover_make.specs.Literals.{point_of}
use Rattle.cover_make.specs.Cubes.{Products, AreProducts, HasInputsBelow, has, table_of, uncovered_by, Covers}
use Rattle.cover_make.specs.Cover.{expansion_from, expansions_below, irredundant_part, cover_of, off_cover_of, IsPrime, IsIrredundant}
use Rattle.cover_make.proofs.LiteralsLaws.{point_of-same}
use Rattle.cover_make.proofs.CubesLaws.{contains-table_of}
use Rattle.cover_make.proofs.ExpansionLaws.{expansion_from-IsProduct, expansion_from-HasInputsBelow, expansion_from-IsPrime, expansion_from-IsInside}
use Rattle.cover_make.proofs.ExpansionsLaws.{expansions_below-All, length-expansions_below, expansions_below-has}
use Rattle.cover_make.proofs.IrredundantLaws.{irredundant_part-All, length-irredundant_part, irredundant_part-Covers, irredundant_part-IsIrredundant}

IsInside-point_of : (inputs x : ℕ) (room : Assignments) → inputs ≤ 10 → x < 2 ^ inputs → set.contains room x ≡ true → IsInside inputs (point_of inputs x) room
IsInside-point_of inputs x room few within one = (IsInside-point inputs x (point_of inputs x) room within (λ y.
    ap (λ c. in_cube c y) (sym (point_of-same _ inputs x (IsProduct-point inputs x few) (literals-point inputs x few))) ∙ in_cube-point inputs x few y)).1 one

-- what each cube has that is found from an assignment of need
cover_of-All : (P : Product → Type 0) (inputs : ℕ) (need room : Assignments) → ((x : ℕ) → x < 2 ^ inputs → set.contains need x ≡ true → P (expansion_from inputs room x)) → All P (cover_of inputs need room)
unfolding cover_of
cover_of-All P inputs need room each = irredundant_part-All P inputs need [] (expansions_below inputs need room (2 ^ inputs)) (expansions_below-All P inputs need room (2 ^ inputs) each)

pub cover_of-AreProducts : (inputs : ℕ) (need room : Assignments) → 1 ≤ inputs → inputs ≤ 10 → AreProducts (record { inputs = inputs; cubes = cover_of inputs need room })
cover_of-AreProducts inputs need room some few = record {
  some = some;
  few = few;
  products = cover_of-All IsProduct inputs need room (λ x _ _. expansion_from-IsProduct inputs room x);
  literals = cover_of-All (HasInputsBelow inputs) inputs need room (λ x _ _. expansion_from-HasInputsBelow inputs room x);
}

pub cover_of-inside : (inputs : ℕ) (need room : Assignments) → inputs ≤ 10 → IsWithin need room → All (λ c. IsInside inputs c room) (cover_of inputs need room)
cover_of-inside inputs need room few within =
    cover_of-All (λ c. IsInside inputs c room) inputs need room (λ x below one. expansion_from-IsInside inputs room x (IsInside-point_of inputs x room few below (within x one)))

pub cover_of-prime : (inputs : ℕ) (need room : Assignments) → All (IsPrime inputs room) (cover_of inputs need room)
cover_of-prime inputs need room = cover_of-All (IsPrime inputs room) inputs need room (λ x _ _. expansion_from-IsPrime inputs room x)

pub cover_of-covers : (inputs : ℕ) (need room : Assignments) → AllBelow (2 ^ inputs) need → Covers (cover_of inputs need room) need
unfolding cover_of
cover_of-covers inputs need room below = irredundant_part-Covers inputs need [] (expansions_below inputs need room (2 ^ inputs)) (λ x one. expansions_below-has inputs need room (2 ^ inputs) x (below x one) one)

pub cover_of-irredundant : (inputs : ℕ) (need room : Assignments) → AllBelow (2 ^ inputs) need → IsIrredundant (cover_of inputs need room) need
unfolding cover_of
cover_of-irredundant inputs need room below = irredundant_part-IsIrredundant inputs need (expansions_below inputs need room (2 ^ inputs)) below

pub length-cover_of : (inputs : ℕ) (need room : Assignments) → inputs ≤ 10 → length (cover_of inputs need room) ≤ 1024
unfolding cover_of
length-cover_of inputs need room few =
    let all : List Product = expansions_below inputs need room (2 ^ inputs) in
    let small : 2 ^ inputs ≤ 2 ^ 10 = pow_mono few in
    let found : length all ≤ 2 ^ inputs = length-expansions_below inputs need room (2 ^ inputs) in
    let less : length (irredundant_part inputs need [] all) ≤ length all = length-irredundant_part inputs need [] all in
    omega arith

-- the cubes found, those kept of them
pub cover_of-found : (inputs : ℕ) (need room : Assignments) (all read cubes : List Product) → all ≡ expansions_below inputs need room (2 ^ inputs) → read ≡ all → cubes ≡ irredundant_part inputs need [] read
    → cubes ≡ cover_of inputs need room
unfolding cover_of
cover_of-found inputs need room all read cubes found same left = left ∙ ap (irredundant_part inputs need []) (same ∙ found)

-- ---- what a list leaves

pub uncovered_by-AllBelow : (list : Products) → AllBelow (2 ^ list.inputs) (uncovered_by list)
uncovered_by-AllBelow list = complement_of-AllBelow list.inputs (table_of list.inputs list.cubes)

bit-low : (n x i : ℕ) → i < n → bit (x % 2 ^ n) i ≡ bit x i
bit-low n x i below = ap (λ b. nat_eq b 1) (sym (bit_at_cat_low (x / 2 ^ n) n (x % 2 ^ n) i below) ∙ ap (λ m. bit_at m i) (shr_split x n))

-- a cube has an assignment where it has the part of it that is of the cube's inputs
in_cube-low : (n x : ℕ) (c : Product) → HasInputsBelow n c → in_cube c x ≡ true → in_cube c (x % 2 ^ n) ≡ true
in_cube-low n x c few one = in_cube-from c (x % 2 ^ n) (λ i low. by_literal i (literal_of c i) refl (in_cube-all c x one i low))
  where
    by_literal : (i : ℕ) (l : Option Bool) → literal_of c i ≡ l → agrees l (bit x i) ≡ true → agrees l (bit (x % 2 ^ n) i) ≡ true
    by_literal i None e h = refl
    by_literal i (Some wanted) e h = ap (agrees (Some wanted)) (bit-low n x i (few i wanted e)) ∙ h

has_member : (cubes : List Product) (k : ℕ) (d : Product) (x : ℕ) → k < length cubes → in_cube (get_or cubes k d) x ≡ true → has cubes x ≡ true
has_member cubes k d x within one = list_any_at (λ c. in_cube c x) cubes k d within one

-- a cube of a list and one inside what the list leaves have no assignment in common
pub uncovered_by-apart : (list : Products) → AreProducts list → (cubes : List Product) → All (λ c. IsInside list.inputs c (uncovered_by list)) cubes → All (HasInputsBelow list.inputs) cubes
    → All (λ d. All (λ c. Meet c d → ⊥) list.cubes) cubes
uncovered_by-apart list h cubes inside literals k e within j d below meet =
    let n : ℕ = list.inputs in
    let x : ℕ = meet.0 % 2 ^ n in
    let low : x < 2 ^ n = mod_below meet.0 (2 ^ n) (pow_pos n) in
    let one : in_cube (get_or list.cubes j d) x ≡ true = in_cube-low n meet.0 (get_or list.cubes j d) (h.literals j d below) meet.2 in
    let other : in_cube (get_or cubes k e) x ≡ true = in_cube-low n meet.0 (get_or cubes k e) (literals k e within) meet.3 in
    let out = and_parts _ _ (sym (contains-complement_of n (table_of n list.cubes) x) ∙ inside k e within x low other) in
    let covered : set.contains (table_of n list.cubes) x ≡ true = contains-table_of n list.cubes x ∙ ap₂ (λ a b. a && b) (lt-ltb x (2 ^ n) low) (has_member list.cubes j d x below one) in
    true≢false (sym covered ∙ not-true _ out.1)

pub off_cover_of-inside : (list : Products) → AreProducts list → All (λ c. IsInside list.inputs c (uncovered_by list)) (off_cover_of list)
off_cover_of-inside list h = cover_of-inside list.inputs (uncovered_by list) (uncovered_by list) h.few (λ x one. one)

pub off_cover_of-covers : (list : Products) → Covers (off_cover_of list) (uncovered_by list)
off_cover_of-covers list = cover_of-covers list.inputs (uncovered_by list) (uncovered_by list) (uncovered_by-AllBelow list)

pub off_cover_of-prime : (list : Products) → All (IsPrime list.inputs (uncovered_by list)) (off_cover_of list)
off_cover_of-prime list = cover_of-prime list.inputs (uncovered_by list) (uncovered_by list)

pub off_cover_of-irredundant : (list : Products) → IsIrredundant (off_cover_of list) (uncovered_by list)
off_cover_of-irredundant list = cover_of-irredundant list.inputs (uncovered_by list) (uncovered_by list) (uncovered_by-AllBelow list)

pub off_cover_of-AreProducts : (list : Products) → AreProducts list → AreProducts (record { inputs = list.inputs; cubes = off_cover_of list })
off_cover_of-AreProducts list h = cover_of-AreProducts list.inputs (uncovered_by list) (uncovered_by list) h.some h.few

pub length-off_cover_of : (list : Products) → AreProducts list → length (off_cover_of list) ≤ 1024
length-off_cover_of list h = length-cover_of list.inputs (uncovered_by list) (uncovered_by list) h.few

pub off_cover_of-apart : (list : Products) → AreProducts list → All (λ d. All (λ c. Meet c d → ⊥) list.cubes) (off_cover_of list)
off_cover_of-apart list h =
    uncovered_by-apart list h (off_cover_of list) (off_cover_of-inside list h) (off_cover_of-AreProducts list h).literals
