-- What one more row does to the sets of all outputs, and what the sets give in the end.
use Rattle.std.proofs.Common.{◌≡◌, ◌≢◌, ℕ, suc, zero, ◌+◌, ◌^◌, ◌≤◌, ◌<◌, inl, inr, Bool, true, false, not, cond, ◌&&◌, ◌||◌, List, [], ◌∷◌, ◌++◌, length, get_or, refl, sym, ap, ◌∙◌, arith, subst, nat_lt, None, Some, add-one, get_or-set_same, get_or-set_other, take, drop, true≢false}
use Rattle.std.proofs.Math.Seq.{take-append_seam}
use Rattle.std.specs.Prelude.{All}
use Rattle.std.proofs.Math.ListN.{set as set_at, length-set}
use Rattle.std.proofs.lemmas.Bool.Decides.{eqb_tells}
use Rattle.std.proofs.lemmas.List.{get_or_default}
use Rattle.std.specs.declared.option.Option.{Option}
use Rattle.std.specs.Option.{SomeIff}
use Rattle.std.specs.List.{list_any}
use Rattle.std.specs.Cmp.{nat_cmp_total}
use Rattle.std.specs.FinSet as set
use Rattle.cube_core.specs.Members.{Assignments, passing_below, AllBelow, AreDisjoint, IsLeast}
use Rattle.cube_core.specs.Cube.{Product, in_cube, members_of_cube, HasLiterals}
use Rattle.cube_core.specs.Function.{Function, IsFunction}
use Rattle.cube_core.proofs.Tools.{contains-members_of_cube, in_cube-HasLiterals, contains-passing_below, passing_below-AllBelow, complement_of-AllBelow, complement_of-AreDisjoint}
use Rattle.pla_reader.specs.declared.kind.Kind.{Kind}
use Rattle.pla_reader.specs.declared.kind.Kind.TheVariants.{F, Fd, Fr, Fdr}
use Rattle.pla_reader.specs.declared.marked.Marked.{Marked}
use Rattle.pla_reader.specs.Meaning.{allows, literal_of}
use Rattle.pla_reader.specs.Sets.{marks_on, marks_off, marks_free, row_names, named, sets_of, off_of, function_of_sets, functions_to}
use Rattle.pla_reader.specs.Marking.{set_with, sets_after, covered_by, Adds, AreSets, AreFunctions, AreBelow, IsClash, are_empty}
use Rattle.pla_reader.specs.declared.pla.PlaRefusal.TheVariants.{Conflict}

-- no row names anything
named-none : (marks : ℕ → Bool) (inputs k : ℕ) → named marks inputs [] k ≡ set.empty
named-none marks inputs k = go (2 ^ inputs) where
  go : (n : ℕ) → passing_below (λ x. false) n ≡ set.empty
  go zero = refl
  go (suc n) = go n

sets_of-none : (kind : Kind) (inputs k : ℕ) → sets_of kind inputs [] k ≡ record { on = set.empty; off = set.empty; free = set.empty }
unfolding sets_of
sets_of-none kind inputs k = λ i. record { on = named-none marks_on inputs k i; off = named-none (marks_off kind) inputs k i; free = named-none (marks_free kind) inputs k i }

pub AreSets-none : (kind : Kind) (inputs outputs : ℕ) (sets : List Marked) → length sets ≡ outputs → All are_empty sets → AreSets kind inputs outputs [] sets
AreSets-none kind inputs outputs sets many empty = record {
  many = many;
  each = λ k s within. empty k s (omega arith) ∙ sym (sets_of-none kind inputs k);
}

-- while there is no row, type and inputs do not matter
pub AreSets-change : (kind other : Kind) (inputs many outputs : ℕ) (sets : List Marked) → AreSets kind inputs outputs [] sets → AreSets other many outputs [] sets
AreSets-change kind other inputs many outputs sets h = record {
  many = h.many;
  each = λ k s within. h.each k s within ∙ sets_of-none kind inputs k ∙ sym (sets_of-none other many k);
}

any-push : (p : List ℕ → Bool) (xs : List (List ℕ)) (x : List ℕ) → list_any p (xs ++ x ∷ []) ≡ (p x || list_any p xs)
any-push p [] x = refl
any-push p (y ∷ ys) x = ap (λ b. p y || b) (any-push p ys x) ∙ swap (p y) (p x) (list_any p ys) where
  swap : (a b c : Bool) → (a || (b || c)) ≡ (b || (a || c))
  swap true true c = refl
  swap true false c = refl
  swap false b c = refl

-- the test of one more row, within the assignments that there are
split : (l m a o : Bool) → (l && ((m && a) || o)) ≡ cond m ((l && o) || (l && a)) (l && o)
split false true a o = refl
split false false a o = refl
split true true true true = refl
split true true true false = refl
split true true false true = refl
split true true false false = refl
split true false a o = refl

contains-cond : (b : Bool) (s t : Assignments) (x : ℕ) → set.contains (cond b s t) x ≡ cond b (set.contains s x) (set.contains t x)
contains-cond true s t x = refl
contains-cond false s t x = refl

-- one more row
named-push : (marks : ℕ → Bool) (inputs : ℕ) (xs : List (List ℕ)) (r : List ℕ) (k : ℕ) → named marks inputs (xs ++ r ∷ []) k ≡ set_with (marks (get_or r (inputs + k) 0)) (covered_by inputs r) (named marks inputs xs k)
named-push marks inputs xs r k = set.same_set nat_cmp_total set.nat_cmp-IsAntisymmetric _ _ (λ x.
    let n : ℕ = 2 ^ inputs in
    let marked : Bool = marks (get_or r (inputs + k) 0) in
    let covers : Bool = allows (take inputs r) x in
    let before : Bool = list_any (row_names marks inputs k x) xs in
    let old : Assignments = named marks inputs xs k in
    let more : Assignments = covered_by inputs r in
    contains-passing_below (λ y. list_any (row_names marks inputs k y) (xs ++ r ∷ [])) n x
    ∙ ap (λ b. nat_lt x n && b) (any-push (row_names marks inputs k x) xs r)
    ∙ split (nat_lt x n) marked covers before
    ∙ sym (contains-cond marked (set.union old more) old x
    ∙ ap (λ b. cond marked b (set.contains old x)) (set.contains-union nat_cmp_total old more x)
    ∙ ap (λ b. cond marked (b || set.contains more x) b) (contains-passing_below (λ y. list_any (row_names marks inputs k y) xs) n x)
    ∙ ap (λ b. cond marked ((nat_lt x n && before) || b) (nat_lt x n && before)) (contains-passing_below (allows (take inputs r)) n x)))

sets_of-push : (kind : Kind) (inputs : ℕ) (xs : List (List ℕ)) (r : List ℕ) (k : ℕ) → sets_of kind inputs (xs ++ r ∷ []) k ≡ sets_after kind (get_or r (inputs + k) 0) (covered_by inputs r) (sets_of kind inputs xs k)
unfolding sets_of
sets_of-push kind inputs xs r k = λ i. record { on = named-push marks_on inputs xs r k i; off = named-push (marks_off kind) inputs xs r k i; free = named-push (marks_free kind) inputs xs r k i }

pub AreSets-push : (kind : Kind) (inputs outputs : ℕ) (xs : List (List ℕ)) (r : List ℕ) (old new : List Marked) → AreSets kind inputs outputs xs old → Adds kind inputs r old new → AreSets kind inputs outputs (xs ++ r ∷ []) new
AreSets-push kind inputs outputs xs r old new h adds = record {
  many = adds.many ∙ h.many;
  each = λ k s within.
      let here : k < length old = let many = h.many in omega arith in
      adds.each k s here ∙ ap (sets_after kind (get_or r (inputs + k) 0) (covered_by inputs r)) (h.each k s within) ∙ sym (sets_of-push kind inputs xs r k);
}

-- The row is added to the sets below n.
pub record IsAddedBelow (kind : Kind) (inputs : ℕ) (digits : List ℕ) (n : ℕ) (old new : List Marked) : Type 0 where
  pub many : length new ≡ length old
  pub done : (k : ℕ) (s : Marked) → k < n → get_or new k s ≡ sets_after kind (get_or digits (inputs + k) 0) (covered_by inputs digits) (get_or old k s)
  pub rest : (k : ℕ) (s : Marked) → n ≤ k → get_or new k s ≡ get_or old k s

pub IsAddedBelow-more : (kind : Kind) (inputs : ℕ) (digits : List ℕ) (n : ℕ) (old new : List Marked) (entry value : Marked) (covered : Assignments) (mark : ℕ) → n < length old → IsAddedBelow kind inputs digits n old new
    → entry ≡ get_or new n entry → covered ≡ covered_by inputs digits → mark ≡ get_or digits (inputs + n) 0 → value ≡ sets_after kind mark covered entry
    → IsAddedBelow kind inputs digits (n + 1) old (set_at new n value)
IsAddedBelow-more kind inputs digits n old new entry value covered mark within h is covers marks now = record {
  many = length-set new n value ∙ h.many;
  done = λ k s below. elim (eqb_tells k n) [
    | inl same ↦
        let here : n < length new = let many = h.many in omega arith in
        let known : entry ≡ get_or old n s = is ∙ get_or_default new n entry s here ∙ h.rest n s (omega arith) in
        ap (λ i. get_or (set_at new n value) i s) same.1 ∙ get_or-set_same new n value s here ∙ now
        ∙ ap (λ c. sets_after kind mark c entry) covers ∙ ap (λ m. sets_after kind m (covered_by inputs digits) entry) marks
        ∙ ap (sets_after kind (get_or digits (inputs + n) 0) (covered_by inputs digits)) known
        ∙ sym (ap (λ i. sets_after kind (get_or digits (inputs + i) 0) (covered_by inputs digits) (get_or old i s)) same.1)
    | inr other ↦
        let ne : k ≢ n = other.1 in
        let before : k < n = omega arith in
        get_or-set_other new n k value s (λ e. ne e) ∙ h.done k s before
  ];
  rest = λ k s above. get_or-set_other new n k value s (λ e. absurd (omega arith)) ∙ h.rest k s (omega arith);
}

-- the cube of digits allows what they allow
pub in_cube-allows : (digits : List ℕ) (c : Product) → length digits ≤ 10 → HasLiterals (λ i. literal_of (get_or digits i 0)) (length digits) c → (x : ℕ) → in_cube c x ≡ allows digits x
unfolding allows
in_cube-allows digits c few has x = in_cube-HasLiterals (λ i. literal_of (get_or digits i 0)) (length digits) c few has x

-- what the row covers, as the table of its cube
pub members_of_cube-allows : (inputs : ℕ) (c : Product) (digits : List ℕ) → ((x : ℕ) → in_cube c x ≡ allows digits x) → members_of_cube inputs c ≡ passing_below (allows digits) (2 ^ inputs)
members_of_cube-allows inputs c digits same = set.same_set nat_cmp_total set.nat_cmp-IsAntisymmetric _ _ (λ x.
    contains-members_of_cube inputs c x ∙ ap (λ b. nat_lt x (2 ^ inputs) && b) (same x) ∙ sym (contains-passing_below (allows digits) (2 ^ inputs) x))

-- a slice of a whole vector, after a call that kept its length
pub written_back : {X : Type 0} (items new : List X) (n : ℕ) → n ≡ length items → length new ≡ length items → take n (new ++ drop (length new) items) ≡ new
written_back items new n many same = ap (λ k. take k (new ++ drop (length new) items)) (many ∙ sym same) ∙ take-append_seam new (drop (length new) items)

pub AreBelow-sets_of : (kind : Kind) (inputs : ℕ) (rows : List (List ℕ)) (k : ℕ) → AreBelow inputs (sets_of kind inputs rows k)
unfolding sets_of
AreBelow-sets_of kind inputs rows k = record {
  on = passing_below-AllBelow (λ x. list_any (row_names marks_on inputs k x) rows) (2 ^ inputs);
  off = passing_below-AllBelow (λ x. list_any (row_names (marks_off kind) inputs k x) rows) (2 ^ inputs);
  free = passing_below-AllBelow (λ x. list_any (row_names (marks_free kind) inputs k x) rows) (2 ^ inputs);
}

pub AreBelow-AreSets : (kind : Kind) (inputs outputs : ℕ) (rows : List (List ℕ)) (sets : List Marked) → AreSets kind inputs outputs rows sets → All (AreBelow inputs) sets
AreBelow-AreSets kind inputs outputs rows sets h = λ k s within.
    let here : k < outputs = let many = h.many in omega arith in
    subst (AreBelow inputs) (sym (h.each k s here)) (AreBelow-sets_of kind inputs rows k)

pub both : (a b : Bool) → (a && b) ≡ true → (a ≡ true) × (b ≡ true)
both true b h = (refl, h)
both false b h = absurd (true≢false (sym h))

not_true : (b : Bool) → not b ≡ true → b ≡ false
not_true true e = sym e
not_true false e = refl

true_or : (a b : Bool) → a ≡ true → (a || b) ≡ true
true_or true b e = refl
true_or false b e = absurd (true≢false (sym e))

-- sets that meet nowhere
pub clear_from_empty : (s t u : Assignments) → u ≡ set.intersection s t → u ≡ set.empty → AreDisjoint s t
clear_from_empty s t u is none x in_s in_t =
    let both_in : set.contains (set.intersection s t) x ≡ true = set.contains-intersection nat_cmp_total s t x ∙ ap (λ b. b && set.contains t x) in_s ∙ in_t in
    true≢false (sym both_in ∙ ap (λ v. set.contains v x) (sym is ∙ none) ∙ set.contains-empty _ x)

AllBelow-difference : (n : ℕ) (s t : Assignments) → AllBelow n s → AllBelow n (set.difference s t)
AllBelow-difference n s t below x h = below x (both _ _ (sym (set.contains-difference nat_cmp_total s t x) ∙ h)).0

in_difference : (s t : Assignments) (x : ℕ) → set.contains (set.difference s t) x ≡ true → (set.contains s x ≡ true) × (set.contains t x ≡ false)
in_difference s t x h = let two = both _ _ (sym (set.contains-difference nat_cmp_total s t x) ∙ h) in (two.0, not_true _ two.1)

off_below : (kind : Kind) (inputs : ℕ) (sets : Marked) → AreBelow inputs sets → AllBelow (2 ^ inputs) (off_of kind inputs sets)
off_below F inputs sets below = complement_of-AllBelow inputs sets.on
off_below Fd inputs sets below = complement_of-AllBelow inputs (set.union sets.on sets.free)
off_below Fr inputs sets below = below.off
off_below Fdr inputs sets below = AllBelow-difference (2 ^ inputs) sets.off sets.free below.off

on_off_disjoint : (kind : Kind) (inputs : ℕ) (sets : Marked) → AreDisjoint sets.on sets.off → AreDisjoint (set.difference sets.on sets.free) (off_of kind inputs sets)
on_off_disjoint F inputs sets clear x one other = complement_of-AreDisjoint inputs sets.on x (in_difference sets.on sets.free x one).0 other
on_off_disjoint Fd inputs sets clear x one other =
    complement_of-AreDisjoint inputs (set.union sets.on sets.free) x (set.contains-union nat_cmp_total sets.on sets.free x ∙ true_or _ _ (in_difference sets.on sets.free x one).0) other
on_off_disjoint Fr inputs sets clear x one other = clear x (in_difference sets.on sets.free x one).0 other
on_off_disjoint Fdr inputs sets clear x one other = clear x (in_difference sets.on sets.free x one).0 (in_difference sets.off sets.free x other).0

pub IsFunction-sets : (kind : Kind) (inputs : ℕ) (sets : Marked) → 1 ≤ inputs → inputs ≤ 10 → AreBelow inputs sets → AreDisjoint sets.on sets.off → IsFunction (function_of_sets kind inputs sets)
IsFunction-sets kind inputs sets some few below clear = record {
  some = some;
  few = few;
  on_below = AllBelow-difference (2 ^ inputs) sets.on sets.free below.on;
  off_below = off_below kind inputs sets below;
  disjoint = on_off_disjoint kind inputs sets clear;
}

Some-from_SomeIff : {T : Type 0} (r : Option T) (P : Type 0) (v : T) → SomeIff r P v → P → r ≡ Some v
Some-from_SomeIff None P v is h = absurd (is h)
Some-from_SomeIff (Some x) P v is h = ap Some is.1

-- the spec of the sets of an output without a conflict
pub spec_made : (kind : Kind) (inputs : ℕ) (sets : Marked) (on off : Assignments) (r : Option Function) → 1 ≤ inputs → inputs ≤ 10 → AreBelow inputs sets → AreDisjoint sets.on sets.off
    → on ≡ set.difference sets.on sets.free → off ≡ off_of kind inputs sets
    → SomeIff r (IsFunction (record { inputs = inputs; on = on; off = off })) (record { inputs = inputs; on = on; off = off })
    → r ≡ Some (function_of_sets kind inputs sets)
spec_made kind inputs sets on off r some few below clear same rest is =
    let one : ◌≡◌ {A = Function} (record { inputs = inputs; on = on; off = off }) (function_of_sets kind inputs sets) = λ i. record { inputs = inputs; on = same i; off = rest i } in
    let made : IsFunction (record { inputs = inputs; on = on; off = off }) = subst IsFunction (sym one) (IsFunction-sets kind inputs sets some few below clear) in
    Some-from_SomeIff r _ _ is made ∙ ap Some one

pub AreFunctions-none : (kind : Kind) (inputs : ℕ) (rows : List (List ℕ)) → AreFunctions kind inputs 0 rows []
AreFunctions-none kind inputs rows = record { each = refl; clear = λ k h. absurd (omega arith) }

-- one more function
pub AreFunctions-push : (kind : Kind) (inputs : ℕ) (sets : List Marked) (k : ℕ) (entry : Marked) (old new : List Function) → k < length sets → entry ≡ get_or sets k entry → AreDisjoint entry.on entry.off
    → ((rows : List (List ℕ)) → AreSets kind inputs (length sets) rows sets → AreFunctions kind inputs k rows old) → new ≡ old ++ function_of_sets kind inputs entry ∷ []
    → (rows : List (List ℕ)) → AreSets kind inputs (length sets) rows sets → AreFunctions kind inputs (k + 1) rows new
AreFunctions-push kind inputs sets k entry old new within is clear before now rows are =
    let here : entry ≡ sets_of kind inputs rows k = is ∙ are.each k entry within in
    record {
      each = now ∙ ap (λ fs. fs ++ function_of_sets kind inputs entry ∷ []) (before rows are).each ∙ ap (λ e. functions_to kind inputs rows k ++ function_of_sets kind inputs e ∷ []) here
          ∙ ap (functions_to kind inputs rows) (sym (add-one k));
      clear = λ j h. elim (eqb_tells j k) [
        | inl same ↦ subst (λ n. AreDisjoint (sets_of kind inputs rows n).on (sets_of kind inputs rows n).off) (sym same.1) (subst (λ e. AreDisjoint e.on e.off) here clear)
        | inr other ↦ let ne : j ≢ k = other.1 in (before rows are).clear j (omega arith)
      ];
    }

-- the first output with a conflict
pub IsClash-here : (kind : Kind) (inputs : ℕ) (sets : List Marked) (k : ℕ) (entry : Marked) (old : List Function) (u : Assignments) (x : ℕ) → k < length sets → entry ≡ get_or sets k entry
    → ((rows : List (List ℕ)) → AreSets kind inputs (length sets) rows sets → AreFunctions kind inputs k rows old) → u ≡ set.intersection entry.on entry.off → IsLeast u x
    → (rows : List (List ℕ)) → AreSets kind inputs (length sets) rows sets → IsClash kind inputs (length sets) rows (Conflict k x)
IsClash-here kind inputs sets k entry old u x within is before meets least rows are =
    let here : entry ≡ sets_of kind inputs rows k = is ∙ are.each k entry within in
    record {
      output = k;
      assign = x;
      within = within;
      earlier = (before rows are).clear;
      least = subst (λ v. IsLeast v x) (meets ∙ ap (λ e. set.intersection e.on e.off) here) least;
      answer = refl;
    }
