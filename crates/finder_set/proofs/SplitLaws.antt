-- The functions of the two parts of a cover, and what is put together from their dual products.
use Rattle.std.proofs.Common.{◌≡◌, ℕ, ◌^◌, ◌<◌, ◌≤◌, inl, inr, Bool, true, false, not, ◌&&◌, ◌||◌, List, length, get_or, take, drop, refl, sym, ap, ap₂, ◌∙◌, subst, nat_lt}
use Rattle.std.specs.Prelude.{Some, None, Result, IfOk}
use Rattle.std.specs.declared.option.Option.{Option}
use Rattle.std.specs.Option.{IfSome, IsSome, SomeIff}
use Rattle.std.specs.FinSet as set
use Rattle.std.proofs.lemmas.Bool.{and_parts, or_cases, lt-ltb, true≢false, not-true, not_from_false, false_from_ne_true}
use Rattle.std.proofs.lemmas.List.{take-append-drop}
use Rattle.std.proofs.lemmas.List.Folds.{list_any_none}
use Rattle.cube_core.specs.Cube.{Product, in_cube}
use Rattle.cube_core.specs.Function.{Function, IsFunction}
use Rattle.cube_core.specs.Members.{AllBelow, complement_of}
use Rattle.cube_core.proofs.Tools.{contains-complement_of, complement_of-AllBelow, complement_of-AreDisjoint, passing_below-AllBelow, IsFunction-complement}
use Rattle.cover_make.specs.Cubes.{Products, AreProducts, has, table_of, uncovered_by}
use Rattle.cover_make.specs.Cover.{off_cover_of}
use Rattle.cover_make.proofs.Tools.{has-append, contains-table_of, cover_of-AreProducts, cover_of-covers, cover_of-inside, off_cover_of-covers, off_cover_of-inside}
use Rattle.dual_product.specs.Dual.{dual_of, on_cover_of}
use Rattle.dual_product.proofs.Tools.{on-IsWithin, dual_of-IsOver, dual_of-Realises}
use Rattle.finder_set.specs.declared.split.Side.{Side}
use Rattle.finder_set.specs.declared.split.Side.TheVariants.{On, Off}
use Rattle.finder_set.specs.Put.{HasPut, IsPutTogether}
use Rattle.finder_set.specs.Splitting.{cubes_of, half_of, part_of, first_of, other_of, area_put, ProposesSplit, IsRight}
use Rattle.lattice_compose.specs.Both.{IsBoth, JoinsBoth}
use Rattle.lattice_compose.specs.Either.{IsEither, JoinsEither}
use Rattle.lattice_grid.specs.Lattice.{Lattice, IsOver}
use Rattle.lattice_grid.specs.Realise.{Joined, Realises}
use Rattle.wire_io.specs.declared.fault.NoMemory.{NoMemory}

-- ---- the functions of parts

table_of-AllBelow : (inputs : ℕ) (cubes : List Product) → AllBelow (2 ^ inputs) (table_of inputs cubes)
unfolding table_of
table_of-AllBelow inputs cubes = passing_below-AllBelow (has cubes) (2 ^ inputs)

pub part_of-IsFunction : (side : Side) (inputs : ℕ) (cubes : List Product) → 1 ≤ inputs → inputs ≤ 10 → IsFunction (part_of side inputs cubes)
part_of-IsFunction On inputs cubes some few = IsFunction-complement inputs (table_of inputs cubes) some few (table_of-AllBelow inputs cubes)
part_of-IsFunction Off inputs cubes some few = record {
  some = some;
  few = few;
  on_below = complement_of-AllBelow inputs (table_of inputs cubes);
  off_below = table_of-AllBelow inputs cubes;
  disjoint = λ x one other. complement_of-AreDisjoint inputs (table_of inputs cubes) x other one;
}

-- an assignment that some cube has, and one that none has
in_part : (inputs : ℕ) (cubes : List Product) (x : ℕ) → x < 2 ^ inputs → has cubes x ≡ true → set.contains (table_of inputs cubes) x ≡ true
in_part inputs cubes x below one = contains-table_of inputs cubes x ∙ ap₂ (λ a b. a && b) (lt-ltb x (2 ^ inputs) below) one

out_part : (inputs : ℕ) (cubes : List Product) (x : ℕ) → x < 2 ^ inputs → has cubes x ≡ false → set.contains (complement_of inputs (table_of inputs cubes)) x ≡ true
out_part inputs cubes x below none =
    let inside : nat_lt x (2 ^ inputs) ≡ true = lt-ltb x (2 ^ inputs) below in
    let out : set.contains (table_of inputs cubes) x ≡ false = contains-table_of inputs cubes x ∙ ap₂ (λ a b. a && b) inside none in
    contains-complement_of inputs (table_of inputs cubes) x ∙ ap₂ (λ a b. a && b) inside (not_from_false (set.contains (table_of inputs cubes) x) out)

-- ---- two parts
has_parts : (k : ℕ) (cubes : List Product) (x : ℕ) → (has (take k cubes) x || has (drop k cubes) x) ≡ has cubes x
has_parts k cubes x = sym (has-append (take k cubes) (drop k cubes) x) ∙ ap (λ l. has l x) (take-append-drop k cubes)

neither : (a b : Bool) → (a || b) ≡ false → (a ≡ false) × (b ≡ false)
neither true b h = absurd (true≢false h)
neither false b h = (refl, h)

module _ (inputs k : ℕ) (cubes : List Product) (a b g : Lattice) where
  either_on : Realises a (part_of On inputs (take k cubes)) → Realises b (part_of On inputs (drop k cubes)) → JoinsEither a b g → (x : ℕ) → x < 2 ^ inputs → has cubes x ≡ true → Joined g x
  either_on first other joins x below one = elim (or_cases (has (take k cubes) x) (has (drop k cubes) x) (has_parts k cubes x ∙ one)) [
    | inl left ↦ (joins x).1 (inl (first.on x (in_part inputs (take k cubes) x below left)))
    | inr right ↦ (joins x).1 (inr (other.on x (in_part inputs (drop k cubes) x below right)))
  ]

  either_off : Realises a (part_of On inputs (take k cubes)) → Realises b (part_of On inputs (drop k cubes)) → JoinsEither a b g → (x : ℕ) → x < 2 ^ inputs → has cubes x ≡ false → Joined g x → ⊥
  either_off first other joins x below none joined =
      let out = neither (has (take k cubes) x) (has (drop k cubes) x) (has_parts k cubes x ∙ none) in
      elim ((joins x).0 joined) [
        | inl left ↦ first.off x (out_part inputs (take k cubes) x below out.0) left
        | inr right ↦ other.off x (out_part inputs (drop k cubes) x below out.1) right
      ]

  both_on : Realises a (part_of Off inputs (take k cubes)) → Realises b (part_of Off inputs (drop k cubes)) → JoinsBoth a b g → (x : ℕ) → x < 2 ^ inputs → has cubes x ≡ false → Joined g x
  both_on first other joins x below none =
      let out = neither (has (take k cubes) x) (has (drop k cubes) x) (has_parts k cubes x ∙ none) in
      (joins x).1 (first.on x (out_part inputs (take k cubes) x below out.0), other.on x (out_part inputs (drop k cubes) x below out.1))

  both_off : Realises a (part_of Off inputs (take k cubes)) → Realises b (part_of Off inputs (drop k cubes)) → JoinsBoth a b g → (x : ℕ) → x < 2 ^ inputs → has cubes x ≡ true → Joined g x → ⊥
  both_off first other joins x below one joined =
      let two = (joins x).0 joined in
      elim (or_cases (has (take k cubes) x) (has (drop k cubes) x) (has_parts k cubes x ∙ one)) [
        | inl left ↦ first.off x (in_part inputs (take k cubes) x below left) two.0
        | inr right ↦ other.off x (in_part inputs (drop k cubes) x below right) two.1
      ]

-- ---- what the covers have
module _ (f : Function) (h : IsFunction f) where
  on_cover-on : (x : ℕ) → set.contains f.on x ≡ true → has (on_cover_of f).cubes x ≡ true
  on_cover-on x one = cover_of-covers f.inputs f.on (complement_of f.inputs f.off) h.on_below x one

  on_cover-off : (x : ℕ) → set.contains f.off x ≡ true → has (on_cover_of f).cubes x ≡ false
  on_cover-off x one = list_any_none (λ c. in_cube c x) (on_cover_of f).cubes (λ k e within. false_from_ne_true (in_cube (get_or (on_cover_of f).cubes k e) x) (λ here.
      let inside : set.contains (complement_of f.inputs f.off) x ≡ true =
      cover_of-inside f.inputs f.on (complement_of f.inputs f.off) h.few (on-IsWithin f h) k e within x (h.off_below x one) here in
      true≢false (sym one ∙ not-true (set.contains f.off x) (and_parts (nat_lt x (2 ^ f.inputs)) (not (set.contains f.off x)) (sym (contains-complement_of f.inputs f.off x) ∙ inside)).1)))

  off_cover-off : (x : ℕ) → set.contains f.off x ≡ true → has (off_cover_of (on_cover_of f)) x ≡ true
  off_cover-off x one = off_cover_of-covers (on_cover_of f) x (out_part f.inputs (on_cover_of f).cubes x (h.off_below x one) (on_cover-off x one))

  off_cover-on : (x : ℕ) → set.contains f.on x ≡ true → has (off_cover_of (on_cover_of f)) x ≡ false
  off_cover-on x one =
      let kept : AreProducts (on_cover_of f) = cover_of-AreProducts f.inputs f.on (complement_of f.inputs f.off) h.some h.few in
      list_any_none (λ c. in_cube c x) (off_cover_of (on_cover_of f)) (λ k e within. false_from_ne_true (in_cube (get_or (off_cover_of (on_cover_of f)) k e) x) (λ here.
      let inside : set.contains (uncovered_by (on_cover_of f)) x ≡ true = off_cover_of-inside (on_cover_of f) kept k e within x (h.on_below x one) here in
      let covered : set.contains (table_of f.inputs (on_cover_of f).cubes) x ≡ true = in_part f.inputs (on_cover_of f).cubes x (h.on_below x one) (on_cover-on x one) in
      true≢false (sym covered ∙ not-true (set.contains (table_of f.inputs (on_cover_of f).cubes) x)
      (and_parts (nat_lt x (2 ^ f.inputs)) (not (set.contains (table_of f.inputs (on_cover_of f).cubes) x)) (sym (contains-complement_of f.inputs (table_of f.inputs (on_cover_of f).cubes) x) ∙ inside)).1)))

-- ---- what is put together from the dual products of the parts
put_realises : (side : Side) (f : Function) (k : ℕ) (a b g : Lattice) → IsFunction f → Realises a (part_of side f.inputs (take k (cubes_of side f))) → Realises b (part_of side f.inputs (drop k (cubes_of side f)))
    → IsPutTogether side a b g → Realises g f
put_realises On f k a b g h first other put = record {
  on = λ x one. either_on f.inputs k (cubes_of On f) a b g first other put.joined x (h.on_below x one) (on_cover-on f h x one);
  off = λ x one. either_off f.inputs k (cubes_of On f) a b g first other put.joined x (h.off_below x one) (on_cover-off f h x one);
}
put_realises Off f k a b g h first other put = record {
  on = λ x one. both_on f.inputs k (cubes_of Off f) a b g first other put.joined x (h.on_below x one) (off_cover-on f h x one);
  off = λ x one. both_off f.inputs k (cubes_of Off f) a b g first other put.joined x (h.off_below x one) (off_cover-off f h x one);
}

part-over : (side : Side) (inputs : ℕ) (cubes : List Product) → 1 ≤ inputs → inputs ≤ 10 → IsOver inputs (dual_of (part_of side inputs cubes))
part-over On inputs cubes some few = dual_of-IsOver (part_of On inputs cubes) (part_of-IsFunction On inputs cubes some few)
part-over Off inputs cubes some few = dual_of-IsOver (part_of Off inputs cubes) (part_of-IsFunction Off inputs cubes some few)

put-IsRight : (side : Side) (f : Function) (g : Lattice) → IsFunction f → IsPutTogether side (first_of side f) (other_of side f) g → IsRight f g
put-IsRight side f g h put =
    let k : ℕ = half_of (cubes_of side f) in
    let first : List Product = take k (cubes_of side f) in
    let other : List Product = drop k (cubes_of side f) in
    record {
      over = put.over f.inputs (part-over side f.inputs first h.some h.few) (part-over side f.inputs other h.some h.few);
      realises = put_realises side f k (first_of side f) (other_of side f) g h
          (dual_of-Realises (part_of side f.inputs first) (part_of-IsFunction side f.inputs first h.some h.few))
          (dual_of-Realises (part_of side f.inputs other) (part_of-IsFunction side f.inputs other h.some h.few)) put;
    }

pub HasPut-IsRight : (side : Side) (f : Function) (answer : Option Lattice) → IsFunction f → HasPut side (first_of side f) (other_of side f) answer → IfSome answer (IsRight f)
HasPut-IsRight side f None h put = tt
HasPut-IsRight side f (Some g) h put = put-IsRight side f g h put

pub HasPut-ProposesSplit : (side : Side) (f : Function) (answer : Option Lattice) → (f.on ≡ set.empty → ⊥) → (f.off ≡ set.empty → ⊥) → 2 ≤ length (cubes_of side f)
    → HasPut side (first_of side f) (other_of side f) answer → ProposesSplit side f answer
HasPut-ProposesSplit side f None some_on some_off cubes put = inr (inr (inr put))
HasPut-ProposesSplit side f (Some g) some_on some_off cubes put = record { some_on = some_on; some_off = some_off; cubes = cubes; room = put.room; put = put.put }

-- ---- one of the two ways to put lattices together
pub put_beside : (side : Side) (a b g : Lattice) → side ≡ On → area_put side a.size b.size ≤ 1048576 → IsEither a b g → JoinsEither a b g → ((n : ℕ) → IsOver n a → IsOver n b → IsOver n g) → IsPutTogether side a b g
put_beside side a b g is room cells joined over = subst (λ (s : Side). area_put s a.size b.size ≤ 1048576 → IsPutTogether s a b g) (sym is) (λ r. record { room = r; put = cells; joined = joined; over = over }) room

pub put_below : (side : Side) (a b g : Lattice) → side ≡ Off → area_put side a.size b.size ≤ 1048576 → IsBoth a b g → JoinsBoth a b g → ((n : ℕ) → IsOver n a → IsOver n b → IsOver n g) → IsPutTogether side a b g
put_below side a b g is room cells joined over = subst (λ (s : Side). area_put s a.size b.size ≤ 1048576 → IsPutTogether s a b g) (sym is) (λ r. record { room = r; put = cells; joined = joined; over = over }) room

-- what makes a function gives one where it is one
pub some_from : (o : Option Function) (f g : Function) → f ≡ g → IsFunction g → SomeIff o (IsFunction f) f → IsSome o
some_from None f g same h made = absurd (made (subst IsFunction (sym same) h))
some_from (Some x) f g same h made = refl

-- the parts of the list that the call gives
pub HasPut-read : (side : Side) (f : Function) (list : Products) (r : Result (Option Lattice) NoMemory) → list ≡ record { inputs = f.inputs; cubes = cubes_of side f }
    → IfOk r (HasPut side (dual_of (part_of side list.inputs (take (half_of list.cubes) list.cubes))) (dual_of (part_of side list.inputs (drop (half_of list.cubes) list.cubes))))
    → IfOk r (HasPut side (first_of side f) (other_of side f))
HasPut-read side f list r is put =
    subst (λ (l : Products). IfOk r (HasPut side (dual_of (part_of side l.inputs (take (half_of l.cubes) l.cubes))) (dual_of (part_of side l.inputs (drop (half_of l.cubes) l.cubes))))) is put
