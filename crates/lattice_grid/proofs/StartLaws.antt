-- The lattice of pairs over rails is right; where a pair is lacking it is the first, and no lattice will do.
use Rattle.std.proofs.Common.{◌≡◌, ◌≢◌, ℕ, ◌^◌, ◌≤◌, ◌<◌, inl, inr, Bool, true, false, not, List, [], ◌∷◌, length, get_or, Option, Some, None, IsSome, IfSome, refl, sym, ap, ◌∙◌, subst, arith}
use Rattle.std.specs.Prelude.{All, unwrap_or}
use Rattle.std.specs.Option.{is_none}
use Rattle.std.specs.FinSet as set
use Rattle.std.proofs.lemmas.Bool.{true≢false, false≢true, and_parts, and_from, not-true, not_from_false, cases_Bool, cases_order, both_ways}
use Rattle.std.proofs.lemmas.List.Elements.{All-cons, All-nil, All-weaker}
use Rattle.std.proofs.lemmas.List.{get_or_default}
use Rattle.std.proofs.lemmas.Nat.{mul-le}
use Rattle.cube_core.specs.Function.{Function, IsFunction}
use Rattle.cube_core.specs.Rising.{rising}
use Rattle.lattice_grid.specs.declared.control.Control.{Control}
use Rattle.lattice_grid.specs.declared.control.Control.TheVariants.{Zero, One, Plain, Bar}
use Rattle.lattice_grid.specs.declared.start.Start.{Start}
use Rattle.lattice_grid.specs.declared.start.Start.TheVariants.{Grid, Lacking}
use Rattle.lattice_grid.specs.Control.{value_of, NamesBelow}
use Rattle.lattice_grid.specs.Lattice.{Lattice, IsLattice, control_at}
use Rattle.lattice_grid.specs.Pairs.{single}
use Rattle.lattice_grid.specs.Rails.{MayStand, IsOverRails, IsFull, literals_of}
use Rattle.lattice_grid.specs.Realise.{Joined, Realises}
use Rattle.lattice_grid.specs.Start.{tells, telling_among, lacking_in, lattice_among, pair_or, start_between, pairs_over, AreToldApart, IsFirstLacking, NeverRealised, IsLackingFirst, IsLackingFinal, IsStartRight, IsOverFull, MatchStart}
use Rattle.lattice_grid.specs.Told.{AreTold}
use Rattle.lattice_grid.proofs.FindLaws.{IfSome-find, find-None-Contains, find-Some, IsPairAt, pairs_in-Some, pairs_in-None}
use Rattle.lattice_grid.proofs.RailsLaws.{literals-MayStand, MayStand-NamesBelow, stands_at, literals-Plain, literals-Bar}
use Rattle.lattice_grid.proofs.RealiseLaws.{on_places, off_places, zero-Realises, one-Realises}
use Rattle.lattice_grid.proofs.RisingLaws.{HasPlace, All-rising, length-rising_few, place_before}
use Rattle.lattice_grid.proofs.ToldLaws.{told-Realises, All-told_cells, length-told_cells}

-- where none of them tells, what may stand and is 1 at x is 1 at y
pub none_tells : (n rails x y : ℕ) → telling_among (literals_of n rails) x y ≡ None → (c : Control) → MayStand n rails c → value_of c x ≡ true → value_of c y ≡ true
none_tells n rails x y none Zero stands on = absurd (false≢true on)
none_tells n rails x y none One stands on = refl
none_tells n rails x y none (Plain i) stands on = elim (cases_Bool (value_of (Plain i) y)) [
  | inl is ↦ is
  | inr other ↦ absurd (both_ways (tells x y (Plain i)) (find-None-Contains (tells x y) (literals_of n rails) (Plain i) none (literals-Plain n rails i stands.0 stands.1)) (and_from (value_of (Plain i) x) (not (value_of (Plain i) y)) on (not_from_false (value_of (Plain i) y) other)))
]
none_tells n rails x y none (Bar i) stands on = elim (cases_Bool (value_of (Bar i) y)) [
  | inl is ↦ is
  | inr other ↦ absurd (both_ways (tells x y (Bar i)) (find-None-Contains (tells x y) (literals_of n rails) (Bar i) none (literals-Bar n rails i stands.0 stands.1)) (and_from (value_of (Bar i) x) (not (value_of (Bar i) y)) on (not_from_false (value_of (Bar i) y) other)))
]

-- ---- whether some literal tells
none-is_none : (o : Option Control) → is_none o ≡ true → o ≡ None
none-is_none None e = refl
none-is_none (Some c) e = absurd (false≢true e)

some-is_none : (o : Option Control) → is_none o ≡ false → IsSome o
some-is_none None e = absurd (true≢false e)
some-is_none (Some c) e = search

-- the one that is found
telling_found : (n rails x y : ℕ) (c : Control) → telling_among (literals_of n rails) x y ≡ Some c → MayStand n rails c × ((value_of c x ≡ true) × (value_of c y ≡ false))
telling_found n rails x y c e =
    let found = find-Some (tells x y) (literals_of n rails) c e in
    let both = and_parts (value_of c x) (not (value_of c y)) found.passes in
    (subst (MayStand n rails) (found.at c) (literals-MayStand n rails found.place c found.within), (both.0, not-true (value_of c y) both.1))

told_from_some : (n rails x y : ℕ) → is_none (telling_among (literals_of n rails) x y) ≡ false → AreToldApart n rails x y
told_from_some n rails x y h = go (telling_among (literals_of n rails) x y) refl h where
  go : (o : Option Control) → telling_among (literals_of n rails) x y ≡ o → is_none o ≡ false → AreToldApart n rails x y
  go None e h = absurd (true≢false h)
  go (Some c) e h = let found = telling_found n rails x y c e in record { literal = c; stands = found.0; on = found.1.0; off = found.1.1 }

alike_from_none : (n rails x y : ℕ) → is_none (telling_among (literals_of n rails) x y) ≡ true → AreToldApart n rails x y → ⊥
alike_from_none n rails x y h told =
    true≢false (sym (none_tells n rails x y (none-is_none (telling_among (literals_of n rails) x y) h) told.literal told.stands told.on) ∙ told.off)

-- the test of a pair
abbrev unapart : ℕ → ℕ → ℕ × ℕ → Bool
unapart n rails pair = is_none (telling_among (literals_of n rails) pair.0 pair.1)

-- ---- the lattice
-- the control for two assignments, where some literal tells them apart
told_control : (n rails x y : ℕ) → is_none (telling_among (literals_of n rails) x y) ≡ false → MayStand n rails (unwrap_or (telling_among (literals_of n rails) x y) One) × ((value_of (unwrap_or (telling_among (literals_of n rails) x y) One) x ≡ true) × (value_of (unwrap_or (telling_among (literals_of n rails) x y) One) y ≡ false))
told_control n rails x y h = go (telling_among (literals_of n rails) x y) refl h where
  go : (o : Option Control) → telling_among (literals_of n rails) x y ≡ o → is_none o ≡ false → MayStand n rails (unwrap_or o One) × ((value_of (unwrap_or o One) x ≡ true) × (value_of (unwrap_or o One) y ≡ false))
  go None e h = absurd (true≢false h)
  go (Some c) e h = telling_found n rails x y c e

grid_is : (g g' : Lattice) → Grid g ≡ Grid g' → g ≡ g'
grid_is g g' e = cc

not_lacking : (g : Lattice) (x y : ℕ) → Grid g ≡ Lacking x y → ⊥
not_lacking g x y e = cc

-- what holds where no pair is lacking
pub record IsRight (f : Function) (rails : ℕ) (g : Lattice) : Type 0 where
  pub kept : IsLattice g
  pub over : IsOverRails f.inputs rails g
  pub realises : Realises g f

module _ (f : Function) (h : IsFunction f) (rails : ℕ) where
  single_right : (c : Control) → MayStand f.inputs rails c → NamesBelow 10 c → Realises (single c) f → IsRight f rails (single c)
  single_right c stands names realises = record {
    kept = record {
      size = record { some_rows = omega arith; some_cols = omega arith; few = omega arith };
      whole = refl;
      inputs = All-cons (NamesBelow 10) c [] names (All-nil (NamesBelow 10));
    };
    over = All-cons (MayStand f.inputs rails) c [] stands (All-nil (MayStand f.inputs rails));
    realises = realises;
  }

  -- the lattice of lists of which no pair is lacking
  between_right : (ons offs : List ℕ) → 1 ≤ length ons → 1 ≤ length offs → length ons ≤ 1024 → length offs ≤ 1024 → lacking_in (literals_of f.inputs rails) ons offs ≡ None
      → ((x : ℕ) → set.contains f.on x ≡ true → HasPlace ons x) → ((y : ℕ) → set.contains f.off y ≡ true → HasPlace offs y) → IsRight f rails (lattice_among (literals_of f.inputs rails) ons offs)
  between_right ons offs some more few few' none on off =
      let told = λ (k j : ℕ) (inside : k < length ons) (within : j < length offs). told_control f.inputs rails (get_or ons k 0) (get_or offs j 0) (pairs_in-None (unapart f.inputs rails) ons offs none k j inside within) in
      let over : IsOverRails f.inputs rails (lattice_among (literals_of f.inputs rails) ons offs) = All-told_cells control (MayStand f.inputs rails) ons offs
      (λ j d within k e inside. subst (λ y. MayStand f.inputs rails (control (get_or ons k e) y)) (get_or_default offs j 0 d within) (subst (λ x. MayStand f.inputs rails (control x (get_or offs j 0))) (get_or_default ons k 0 e inside) (told k j inside within).0)) in
      record {
        kept = record {
          size = record { some_rows = more; some_cols = some; few = mul-le (length offs) (length ons) 1024 1024 few' few };
          whole = length-told_cells control ons offs;
          inputs = MayStand-NamesBelow f.inputs rails h.few _ over;
        };
        over = over;
        realises = told-Realises control f ons offs (record { on = λ k j inside within. (told k j inside within).1.0; off = λ k j inside within. (told k j inside within).1.1 }) more on off;
      } where
        control : ℕ → ℕ → Control
        control x y = unwrap_or (telling_among (literals_of f.inputs rails) x y) One

  pair_or-Grid : (o : Option (ℕ × ℕ)) (g g' : Lattice) → pair_or o g ≡ Grid g' → (o ≡ None) × (g ≡ g')
  pair_or-Grid None g g' e = (refl, cc)
  pair_or-Grid (Some pair) g g' e = cc

  pair_or-Lacking : (o : Option (ℕ × ℕ)) (g : Lattice) (x y : ℕ) → pair_or o g ≡ Lacking x y → o ≡ Some (x, y)
  pair_or-Lacking None g x y e = cc
  pair_or-Lacking (Some pair) g x y e = let p : pair.0 ≡ x = cc in let q : pair.1 ≡ y = cc in ap (λ z. Some z) (λ i. (p i, q i))

  start_right : (ons offs : List ℕ) → length ons ≤ 1024 → length offs ≤ 1024 → ((x : ℕ) → set.contains f.on x ≡ true → HasPlace ons x) → ((y : ℕ) → set.contains f.off y ≡ true → HasPlace offs y)
      → (g : Lattice) → start_between (literals_of f.inputs rails) ons offs ≡ Grid g → IsRight f rails g
  start_right [] offs few few' on off g e = subst (IsRight f rails) (grid_is (single Zero) g e) (single_right Zero (tt, refl) tt (zero-Realises f on))
  start_right (x ∷ ons) [] few few' on off g e = subst (IsRight f rails) (grid_is (single One) g e) (single_right One (tt, refl) tt (one-Realises f off))
  start_right (x ∷ ons) (y ∷ offs) few few' on off g e =
      let parts = pair_or-Grid (lacking_in (literals_of f.inputs rails) (x ∷ ons) (y ∷ offs)) (lattice_among (literals_of f.inputs rails) (x ∷ ons) (y ∷ offs)) g e in
      subst (IsRight f rails) parts.1 (between_right (x ∷ ons) (y ∷ offs) (omega arith) (omega arith) few few' parts.0 on off)

  pub start_is_right : (g : Lattice) → pairs_over f rails ≡ Grid g → IsRight f rails g
  start_is_right = start_right (rising (2 ^ f.inputs) f.on) (rising (2 ^ f.inputs) f.off) (length-rising_few f f.on h) (length-rising_few f f.off h) (on_places f h) (off_places f h)

  -- ---- the lacking pair
  start_pair : (ons offs : List ℕ) (x y : ℕ) → start_between (literals_of f.inputs rails) ons offs ≡ Lacking x y → IsPairAt (unapart f.inputs rails) ons offs x y
  start_pair [] offs x y e = absurd (not_lacking (single Zero) x y e)
  start_pair (a ∷ ons) [] x y e = absurd (not_lacking (single One) x y e)
  start_pair (a ∷ ons) (b ∷ offs) x y e =
      pairs_in-Some (unapart f.inputs rails) (a ∷ ons) (b ∷ offs) x y (pair_or-Lacking (lacking_in (literals_of f.inputs rails) (a ∷ ons) (b ∷ offs)) (lattice_among (literals_of f.inputs rails) (a ∷ ons) (b ∷ offs)) x y e)

  pub pair_found : (x y : ℕ) → pairs_over f rails ≡ Lacking x y → IsPairAt (unapart f.inputs rails) (rising (2 ^ f.inputs) f.on) (rising (2 ^ f.inputs) f.off) x y
  pair_found = start_pair (rising (2 ^ f.inputs) f.on) (rising (2 ^ f.inputs) f.off)

-- ---- a pair that no allowed literal tells apart
-- what is on at x is on at y
on_at_both : (n rails x y : ℕ) → (AreToldApart n rails x y → ⊥) → (c : Control) → MayStand n rails c → value_of c x ≡ true → value_of c y ≡ true
on_at_both n rails x y alike c stands on = elim (cases_Bool (value_of c y)) [
  | inl is ↦ is
  | inr other ↦ absurd (alike (record { literal = c; stands = stands; on = on; off = other }))
]

-- so a path at x is a path at y
joined_at_both : (n rails x y : ℕ) (g : Lattice) → (AreToldApart n rails x y → ⊥) → IsOverRails n rails g → Joined g x → Joined g y
joined_at_both n rails x y g alike over joined = (
  joined.0,
  record {
    inside = joined.1.inside;
    in_set = λ k d within. on_at_both n rails x y alike (control_at g (get_or joined.0 k d)) (stands_at n rails g (get_or joined.0 k d) over) (joined.1.in_set k d within);
    chained = joined.1.chained;
    starts = joined.1.starts;
    ends = joined.1.ends;
  },
)

never : (f : Function) (rails x y : ℕ) → set.contains f.on x ≡ true → set.contains f.off y ≡ true → (AreToldApart f.inputs rails x y → ⊥) → NeverRealised f rails
never f rails x y on off alike g kept over realises = realises.off y off (joined_at_both f.inputs rails x y g alike over (realises.on x on))

first_lacking : (f : Function) (rails x y : ℕ) → IsFunction f → pairs_over f rails ≡ Lacking x y → IsFirstLacking f rails x y
first_lacking f rails x y h e =
    let found = pair_found f h rails x y e in
    let on = All-rising (2 ^ f.inputs) f.on found.column 0 found.in_ons in
    let off = All-rising (2 ^ f.inputs) f.off found.off.place 0 found.off.within in
    record {
      on = subst (λ z. set.contains f.on z ≡ true) (found.at_on 0) on.1;
      off = subst (λ z. set.contains f.off z ≡ true) (found.off.at 0) off.1;
      alike = alike_from_none f.inputs rails x y found.off.passes;
      least_on = λ a b less a_on b_off.
          let at = on_places f h a a_on in
          let at' = off_places f h b b_off in
          let before : at.place < found.column = place_before (2 ^ f.inputs) f.on found.column a at found.in_ons (subst (λ z. a < z) (sym (found.at_on 0)) less) in
          told_from_some f.inputs rails a b (subst (λ z. is_none (telling_among (literals_of f.inputs rails) z b) ≡ false) (at.here 0) (subst (λ z. is_none (telling_among (literals_of f.inputs rails) (get_or (rising (2 ^ f.inputs) f.on) at.place 0) z) ≡ false) (at'.here 0) (found.before at.place at'.place before at'.within)));
      least_off = λ b less b_off.
          let at = off_places f h b b_off in
          let before : at.place < found.off.place = place_before (2 ^ f.inputs) f.off found.off.place b at found.off.within (subst (λ z. b < z) (sym (found.off.at 0)) less) in
          told_from_some f.inputs rails x b (subst (λ z. is_none (telling_among (literals_of f.inputs rails) x z) ≡ false) (at.here 0) (found.off.before at.place 0 before));
    }

-- there is one first pair at most
first_once : (f : Function) (rails x y a b : ℕ) → IsFirstLacking f rails x y → IsFirstLacking f rails a b → (x ≡ a) × (y ≡ b)
first_once f rails x y a b h k =
    let same : x ≡ a = elim (cases_order x a) [
      | inl e ↦ e
      | inr other ↦ elim other [ inl less ↦ absurd (h.alike (k.least_on x y less h.on h.off)) | inr more ↦ absurd (k.alike (h.least_on a b more k.on k.off)) ]
    ] in (
      same,
      elim (cases_order y b) [
        | inl e ↦ e
        | inr other ↦ elim other [
          | inl less ↦ absurd (h.alike (subst (λ z. AreToldApart f.inputs rails z y) (sym same) (k.least_off y less h.off)))
          | inr more ↦ absurd (k.alike (subst (λ z. AreToldApart f.inputs rails z b) same (h.least_off b more k.off)))
        ]
      ],
    )

lacking_of_first : (f : Function) (rails x y : ℕ) → IsFunction f → IsFirstLacking f rails x y → pairs_over f rails ≡ Lacking x y
lacking_of_first f rails x y h k = go (pairs_over f rails) refl where
  go : (s : Start) → pairs_over f rails ≡ s → s ≡ Lacking x y
  go (Grid g) e = let right = start_is_right f h rails g e in absurd (never f rails x y k.on k.off k.alike g right.kept right.over right.realises)
  go (Lacking a b) e = let same = first_once f rails a b x y (first_lacking f rails a b h e) k in λ i. Lacking (same.0 i) (same.1 i)

pub lacking_is_first : IsLackingFirst
lacking_is_first f rails x y h = (first_lacking f rails x y h, lacking_of_first f rails x y h)

pub lacking_is_final : IsLackingFinal
lacking_is_final f rails x y h e = let first = first_lacking f rails x y h e in never f rails x y first.on first.off first.alike

pub start_right_law : IsStartRight
start_right_law f rails g h e = let right = start_is_right f h rails g e in (right.kept, right.over, right.realises)

-- ---- all literals
stands_full : (n rails : ℕ) → IsFull n rails → (c : Control) → NamesBelow n c → MayStand n rails c
stands_full n rails full Zero h = (tt, refl)
stands_full n rails full One h = (tt, refl)
stands_full n rails full (Plain i) h = (h, (full i h).0)
stands_full n rails full (Bar i) h = (h, (full i h).1)

pub over_full : IsOverFull
over_full n rails g full = (
  λ over. All-weaker (NamesBelow n) (MayStand n rails) (stands_full n rails full) g.cells over,
  λ over. All-weaker (MayStand n rails) (NamesBelow n) (λ c h. h.0) g.cells over,
)

-- ---- what the call answers
pub right_read : (f : Function) (rails : ℕ) → IsFunction f → (s : Start) → s ≡ pairs_over f rails → MatchStart s (IsOverRails f.inputs rails) (IsFirstLacking f rails)
right_read f rails h (Grid g) e = (start_is_right f h rails g (sym e)).over
right_read f rails h (Lacking x y) e = first_lacking f rails x y h (sym e)

pub realises_read : (f : Function) (rails : ℕ) → IsFunction f → (s : Start) → s ≡ pairs_over f rails → MatchStart s (λ g. Realises g f) (λ x y. NeverRealised f rails)
realises_read f rails h (Grid g) e = (start_is_right f h rails g (sym e)).realises
realises_read f rails h (Lacking x y) e = lacking_is_final f rails x y h (sym e)

-- where no pair is lacking each on assignment can be told from each off assignment
pub can_tell_all : (literals : List Control) (ons offs : List ℕ) → All (NamesBelow 10) literals → length ons ≤ 1024 → length offs ≤ 1024 → lacking_in literals ons offs ≡ None
    → AreTold (λ on off. All (NamesBelow 10) literals × IsSome (telling_among literals on off)) ons offs
can_tell_all literals ons offs names few few' none = record {
  told = λ j d within k e inside. (
    names,
    subst (λ y. IsSome (telling_among literals (get_or ons k e) y)) (get_or_default offs j 0 d within)
        (subst (λ x. IsSome (telling_among literals x (get_or offs j 0))) (get_or_default ons k 0 e inside)
        (some-is_none (telling_among literals (get_or ons k 0) (get_or offs j 0)) (pairs_in-None (λ pair. is_none (telling_among literals pair.0 pair.1)) ons offs none k j inside within))),
  );
  few_ons = few;
  few_offs = few';
}

-- the literal that is found names an input
pub telling_input : (literals : List Control) (x y : ℕ) (o : Option Control) (c : Control) → All (NamesBelow 10) literals → o ≡ telling_among literals x y → o ≡ Some c → NamesBelow 10 c
telling_input literals x y o c names e is =
    let found = IfSome-find (NamesBelow 10) (tells x y) literals names in
    (subst (λ r. IfSome r (λ c. NamesBelow 10 c × (tells x y c ≡ true))) (sym e ∙ is) found).0

-- where no pair is lacking an allowed literal tells each on assignment from each off assignment
pub told_all : (f : Function) (rails x y : ℕ) → IsFunction f → ((a b : ℕ) → pairs_over f rails ≢ Lacking a b) → set.contains f.on x ≡ true → set.contains f.off y ≡ true → AreToldApart f.inputs rails x y
told_all f rails x y h none on off = elim (cases_Bool (is_none (telling_among (literals_of f.inputs rails) x y))) [
  | inl alike ↦ absurd (go (alike_from_none f.inputs rails x y alike) (pairs_over f rails) refl)
  | inr told ↦ told_from_some f.inputs rails x y told
] where
  go : (AreToldApart f.inputs rails x y → ⊥) → (s : Start) → pairs_over f rails ≡ s → ⊥
  go alike (Grid g) e = let right = start_is_right f h rails g e in never f rails x y on off alike g right.kept right.over right.realises
  go alike (Lacking a b) e = none a b e
