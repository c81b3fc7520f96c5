-- The dual product realises its function.
use Rattle.std.proofs.Common.{◌≡◌, ℕ, suc, zero, ◌+◌, ◌*◌, ◌^◌, ◌≤◌, ◌<◌, inl, inr, true, false, cond, not, ◌&&◌, List, [], ◌∷◌, length, get_or, map, refl, sym, ap, ap₂, ◌∙◌, subst, arith, lit≤, nat_eq, nat_lt, length-append}
use Rattle.std.specs.Prelude.{All}
use Rattle.std.specs.List.{flat_map}
use Rattle.std.specs.FinSet as set
use Rattle.std.specs.Ordering.{nat_cmp}
use Rattle.std.proofs.lemmas.Bool.{cases_Bool, eq-eqb, ne_eqb, eqb-true, and_parts, or_cases, lt-ltb, true≢false, false≢true, not-true, not_from_false, false_from_ne_true}
use Rattle.std.proofs.lemmas.List.{length-map, get_or-map, get_or_append_left, get_or-append-add}
use Rattle.std.proofs.lemmas.List.Elements.{All-nil, All-cons, All-append, All-map, All-head, All-tail}
use Rattle.cube_core.specs.Cube.{Product, IsProduct, in_cube, ClashAt}
use Rattle.cube_core.specs.Function.{Function, IsFunction}
use Rattle.cube_core.specs.Members.{Assignments, IsWithin, complement_of}
use Rattle.cube_core.proofs.Tools.{contains-complement_of, literal_of-few, empty_from_none}
use Rattle.cover_make.specs.Cubes.{Products, AreProducts, HasInputsBelow, has, table_of}
use Rattle.cover_make.specs.Cover.{cover_of, off_cover_of}
use Rattle.cover_make.proofs.Tools.{contains-table_of, cover_of-AreProducts, cover_of-inside, cover_of-covers, length-cover_of, off_cover_of-AreProducts, off_cover_of-covers, off_cover_of-apart, length-off_cover_of}
use Rattle.lattice_grid.specs.declared.control.Control.{Control}
use Rattle.lattice_grid.specs.declared.control.Control.TheVariants.{Zero, One}
use Rattle.lattice_grid.specs.Control.{value_of, NamesBelow}
use Rattle.lattice_grid.specs.Lattice.{Lattice, IsOver, is_on_at}
use Rattle.lattice_grid.specs.Realise.{Joined, Realises}
use Rattle.lattice_grid.specs.Pairs.{single}
use Rattle.lattice_grid.proofs.Tools.{joined_by_column, not_joined_past_row}
use Rattle.dual_product.specs.Dual.{clash_of, literal_against, AreApart, dual_between, on_cover_of, dual_of}
use Rattle.dual_product.proofs.ClashLaws.{clash_of-ClashAt, literal_against-on, literal_against-off, literal_against-NamesBelow}

-- ---- the cells

-- the cells of a column for each of the first list and a row for each of the second
abbrev pub dual_cells : List Product → List Product → List Control
dual_cells ons offs = flat_map (λ d. map (λ c. literal_against c d) ons) offs

pub length-dual_cells : (ons offs : List Product) → length (dual_cells ons offs) ≡ length offs * length ons
length-dual_cells ons [] = omega arith
length-dual_cells ons (d ∷ offs) =
    let more = length-dual_cells ons offs in
    omega (arith, length-append (map (λ c. literal_against c d) ons) (dual_cells ons offs), length-map ons (λ c. literal_against c d), more)

-- the cell of a row and a column
cell_at : (ons offs : List Product) (row col : ℕ) (e f : Product) (z : Control) → row < length offs → col < length ons
    → get_or (dual_cells ons offs) (row * length ons + col) z ≡ literal_against (get_or ons col e) (get_or offs row f)
cell_at ons [] row col e f z r w = absurd (omega arith)
cell_at ons (d ∷ offs) zero col e f z r w =
    let place : 0 * length ons + col ≡ col = omega arith in
    ap (λ n. get_or (dual_cells ons (d ∷ offs)) n z) place
    ∙ get_or_append_left (map (λ c. literal_against c d) ons) (dual_cells ons offs) z col (rw length-map w) ∙ get_or-map (λ c. literal_against c d) ons col e z w
cell_at ons (d ∷ offs) (suc row) col e f z r w =
    let place : suc row * length ons + col ≡ length ons + (row * length ons + col) = omega arith in
    ap (λ n. get_or (dual_cells ons (d ∷ offs)) n z) (place ∙ ap (λ n. n + (row * length ons + col)) (sym (length-map ons (λ c. literal_against c d))))
    ∙ get_or-append-add (map (λ c. literal_against c d) ons) (dual_cells ons offs) (row * length ons + col) z
    ∙ cell_at ons offs row col e f z (omega arith) w

ClashAt-both : (ons offs : List Product) → AreApart ons offs → (row col : ℕ) (e f : Product) → row < length offs → col < length ons
    → ClashAt (get_or ons col e) (get_or offs row f) (clash_of (get_or ons col e) (get_or offs row f))
ClashAt-both ons offs h row col e f r w =
    clash_of-ClashAt (get_or ons col e) (get_or offs row f) (h.on_products col e w) (h.off_products row f r) (h.apart row f r col e w)

pub All-dual_cells : (n : ℕ) (ons offs : List Product) → All (HasInputsBelow n) ons → All (λ d. All (λ c. ClashAt c d (clash_of c d)) ons) offs → All (NamesBelow n) (dual_cells ons offs)
All-dual_cells n ons [] few clash = All-nil (NamesBelow n)
All-dual_cells n ons (d ∷ offs) few clash =
    All-append (NamesBelow n) (map (λ c. literal_against c d) ons) (dual_cells ons offs)
    (All-map (NamesBelow n) (λ c. literal_against c d) ons (λ k e within.
    literal_against-NamesBelow n (get_or ons k e) d (few k e within) (All-head (λ d. All (λ c. ClashAt c d (clash_of c d)) ons) d offs clash k e within)))
    (All-dual_cells n ons offs few (All-tail (λ d. All (λ c. ClashAt c d (clash_of c d)) ons) d offs clash))

pub IsOver-dual_between : (n : ℕ) (ons offs : List Product) → AreApart ons offs → All (HasInputsBelow n) ons → IsOver n (dual_between ons offs)
IsOver-dual_between n ons offs h few = All-dual_cells n ons offs few (λ row f r col e w. ClashAt-both ons offs h row col e f r w)

-- cubes of the ten inputs name inputs below ten
HasInputsBelow-ten : (c : Product) → IsProduct c → HasInputsBelow 10 c
HasInputsBelow-ten c h i wanted e = literal_of-few c h i wanted e

pub dual_cells-NamesBelow : (ons offs : List Product) → AreApart ons offs → All (NamesBelow 10) (dual_cells ons offs)
dual_cells-NamesBelow ons offs h = IsOver-dual_between 10 ons offs h (λ k e within. HasInputsBelow-ten (get_or ons k e) (h.on_products k e within))

-- ---- the paths

-- a cube of the list that has the assignment, with its place
record HasMember (cubes : List Product) (x : ℕ) : Type 0 where
  place : ℕ
  within : place < length cubes
  here : (e : Product) → in_cube (get_or cubes place e) x ≡ true

HasMember-has : (cubes : List Product) (x : ℕ) → has cubes x ≡ true → HasMember cubes x
HasMember-has [] x one = absurd (false≢true one)
HasMember-has (c ∷ cubes) x one = elim (or_cases (in_cube c x) (has cubes x) one) [
  | inl first ↦ record { place = 0; within = omega arith; here = λ e. first }
  | inr later ↦
      let inner = HasMember-has cubes x later in
      let within = inner.within in
      record { place = suc inner.place; within = omega arith; here = inner.here }
]

between-on : (ons offs : List Product) (x : ℕ) → AreApart ons offs → 1 ≤ length offs → has ons x ≡ true → Joined (dual_between ons offs) x
between-on ons offs x h some one =
    let at = HasMember-has ons x one in
    joined_by_column (record { rows = length offs; cols = length ons }) (is_on_at (dual_between ons offs) x) at.place some at.within
    (λ row below.
    let e : Product = record { care = 0; value = 0 } in
    ap (λ c. value_of c x) (cell_at ons offs row at.place e e Zero below at.within)
    ∙ literal_against-on (get_or ons at.place e) (get_or offs row e) x (h.on_products at.place e at.within) (ClashAt-both ons offs h row at.place e e below at.within) (at.here e))

between-off : (ons offs : List Product) (y : ℕ) → AreApart ons offs → has offs y ≡ true → Joined (dual_between ons offs) y → ⊥
between-off ons offs y h one =
    let at = HasMember-has offs y one in
    not_joined_past_row (record { rows = length offs; cols = length ons }) (is_on_at (dual_between ons offs) y) at.place at.within
    (λ p same below on.
    let e : Product = record { care = 0; value = 0 } in
    true≢false (sym on ∙ ap (λ c. value_of c y) (ap (λ r. get_or (dual_cells ons offs) (r * length ons + p.col) Zero) same ∙ cell_at ons offs at.place p.col e e Zero at.within below)
    ∙ literal_against-off (get_or ons p.col e) (get_or offs at.place e) y (h.on_products p.col e below) (ClashAt-both ons offs h at.place p.col e e at.within below) (at.here e)))

zero_cells : (n : ℕ) → get_or (Zero ∷ []) n Zero ≡ Zero
zero_cells zero = refl
zero_cells (suc n) = refl

single-Zero : (x : ℕ) → Joined (single Zero) x → ⊥
single-Zero x = not_joined_past_row (record { rows = 1; cols = 1 }) (is_on_at (single Zero) x) 0 (lit≤ tt)
    (λ p same below one. true≢false (sym one ∙ ap (λ c. value_of c x) (zero_cells (p.row * 1 + p.col))))

single-One : (x : ℕ) → Joined (single One) x
single-One x = joined_by_column (record { rows = 1; cols = 1 }) (is_on_at (single One) x) 0 (lit≤ tt) (lit≤ tt)
    (λ row below. let top : row ≡ 0 = omega arith in ap (λ r. value_of (get_or (One ∷ []) (r * 1 + 0) Zero) x) top)

-- ---- the covers of a function

pub on-IsWithin : (f : Function) → IsFunction f → IsWithin f.on (complement_of f.inputs f.off)
on-IsWithin f h x one = contains-complement_of f.inputs f.off x
    ∙ ap₂ (λ a b. a && b) (lt-ltb x (2 ^ f.inputs) (h.on_below x one)) (not_from_false (set.contains f.off x) (false_from_ne_true (set.contains f.off x) (h.disjoint x one)))

on_cover-AreProducts : (f : Function) → IsFunction f → AreProducts (on_cover_of f)
on_cover-AreProducts f h = cover_of-AreProducts f.inputs f.on (complement_of f.inputs f.off) h.some h.few

pub covers-AreApart : (f : Function) → IsFunction f → AreApart (on_cover_of f).cubes (off_cover_of (on_cover_of f))
covers-AreApart f h =
    let ons : Products = on_cover_of f in
    let kept : AreProducts ons = on_cover-AreProducts f h in
    record {
      apart = off_cover_of-apart ons kept;
      on_products = kept.products;
      off_products = (off_cover_of-AreProducts ons kept).products;
      few_ons = length-cover_of f.inputs f.on (complement_of f.inputs f.off) h.few;
      few_offs = length-off_cover_of ons kept;
    }

-- the lists that the calls give
pub on_cover-read : (f : Function) (room : Assignments) (ons : Products) → room ≡ complement_of f.inputs f.off → ons ≡ record { inputs = f.inputs; cubes = cover_of f.inputs f.on room } → ons ≡ on_cover_of f
on_cover-read f room ons same is = is ∙ ap (λ (s : Assignments). let list : Products = record { inputs = f.inputs; cubes = cover_of f.inputs f.on s } in list) same

pub off_cover-read : (f : Function) (ons offs : Products) → ons ≡ on_cover_of f → offs ≡ record { inputs = ons.inputs; cubes = off_cover_of ons } → offs.cubes ≡ off_cover_of (on_cover_of f)
off_cover-read f ons offs same is = ap (λ (l : Products). l.cubes) is ∙ ap off_cover_of same

pub AreApart-read : (f : Function) → IsFunction f → (ons offs : List Product) → ons ≡ (on_cover_of f).cubes → offs ≡ off_cover_of (on_cover_of f) → AreApart ons offs
AreApart-read f h ons offs on_is off_is = subst (λ (os : List Product). AreApart os offs) (sym on_is) (subst (λ (qs : List Product). AreApart (on_cover_of f).cubes qs) (sym off_is) (covers-AreApart f h))

on_cover-has : (f : Function) → IsFunction f → (x : ℕ) → set.contains f.on x ≡ true → has (on_cover_of f).cubes x ≡ true
on_cover-has f h = cover_of-covers f.inputs f.on (complement_of f.inputs f.off) h.on_below

-- a cube of the on cover has no off assignment, so the off cover has it
on_cover-none : (f : Function) → IsFunction f → (y : ℕ) → set.contains f.off y ≡ true → set.contains (table_of f.inputs (on_cover_of f).cubes) y ≡ true → ⊥
on_cover-none f h y one covered =
    let cubes : List Product = (on_cover_of f).cubes in
    let at = HasMember-has cubes y (and_parts (nat_lt y (2 ^ f.inputs)) (has cubes y) (sym (contains-table_of f.inputs cubes y) ∙ covered)).1 in
    let e : Product = record { care = 0; value = 0 } in
    let inside : set.contains (complement_of f.inputs f.off) y ≡ true =
    cover_of-inside f.inputs f.on (complement_of f.inputs f.off) h.few (on-IsWithin f h) at.place e at.within y (h.off_below y one) (at.here e) in
    true≢false (sym one ∙ not-true (set.contains f.off y) (and_parts (nat_lt y (2 ^ f.inputs)) (not (set.contains f.off y)) (sym (contains-complement_of f.inputs f.off y) ∙ inside)).1)

off_cover-has : (f : Function) → IsFunction f → (y : ℕ) → set.contains f.off y ≡ true → has (off_cover_of (on_cover_of f)) y ≡ true
off_cover-has f h y one =
    let covered : Assignments = table_of f.inputs (on_cover_of f).cubes in
    off_cover_of-covers (on_cover_of f) y
    (contains-complement_of f.inputs covered y
    ∙ ap₂ (λ a b. a && b) (lt-ltb y (2 ^ f.inputs) (h.off_below y one)) (not_from_false (set.contains covered y) (false_from_ne_true (set.contains covered y) (on_cover-none f h y one))))

-- a list of cubes that has some assignment has a cube
some_cubes : (cubes : List Product) (s : Assignments) → (s ≡ set.empty → ⊥) → ((x : ℕ) → set.contains s x ≡ true → has cubes x ≡ true) → 1 ≤ length cubes
some_cubes [] s some all = absurd (some (empty_from_none s (λ x one. false≢true (all x one))))
some_cubes (c ∷ cubes) s some all = omega arith

pub some_ons : (f : Function) → IsFunction f → (f.on ≡ set.empty → ⊥) → 1 ≤ length (on_cover_of f).cubes
some_ons f h some = some_cubes (on_cover_of f).cubes f.on some (on_cover-has f h)

pub some_offs : (f : Function) → IsFunction f → (f.off ≡ set.empty → ⊥) → 1 ≤ length (off_cover_of (on_cover_of f))
some_offs f h some = some_cubes (off_cover_of (on_cover_of f)) f.off some (off_cover-has f h)

-- ---- the lattice of a function

pub len-none : (s : Assignments) → s ≡ set.empty → nat_eq (set.len s) 0 ≡ true
len-none s e = eq-eqb (set.len s) 0 (ap set.len e ∙ set.len-empty nat_cmp)

pub len-some : (s : Assignments) → (s ≡ set.empty → ⊥) → nat_eq (set.len s) 0 ≡ false
len-some s some = ne_eqb (set.len s) 0 (λ e. some (set.empty_of_len s e))

pub dual_of-none : (f : Function) → f.on ≡ set.empty → dual_of f ≡ single Zero
dual_of-none f none =
    ap (λ b. cond b (single Zero) (cond (nat_eq (set.len f.off) 0) (single One) (dual_between (on_cover_of f).cubes (off_cover_of (on_cover_of f))))) (len-none f.on none)

pub dual_of-all : (f : Function) → (f.on ≡ set.empty → ⊥) → f.off ≡ set.empty → dual_of f ≡ single One
dual_of-all f some none =
    ap (λ b. cond b (single Zero) (cond (nat_eq (set.len f.off) 0) (single One) (dual_between (on_cover_of f).cubes (off_cover_of (on_cover_of f))))) (len-some f.on some)
    ∙ ap (λ b. cond b (single One) (dual_between (on_cover_of f).cubes (off_cover_of (on_cover_of f)))) (len-none f.off none)

pub dual_of-some : (f : Function) → (f.on ≡ set.empty → ⊥) → (f.off ≡ set.empty → ⊥) → dual_of f ≡ dual_between (on_cover_of f).cubes (off_cover_of (on_cover_of f))
dual_of-some f some more =
    ap (λ b. cond b (single Zero) (cond (nat_eq (set.len f.off) 0) (single One) (dual_between (on_cover_of f).cubes (off_cover_of (on_cover_of f))))) (len-some f.on some)
    ∙ ap (λ b. cond b (single One) (dual_between (on_cover_of f).cubes (off_cover_of (on_cover_of f)))) (len-some f.off more)

-- what holds of the lattice holds in each of the three cases
by_cases : (P : Lattice → Type 0) (f : Function) → (f.on ≡ set.empty → P (single Zero)) → (f.off ≡ set.empty → P (single One))
    → ((f.on ≡ set.empty → ⊥) → (f.off ≡ set.empty → ⊥) → P (dual_between (on_cover_of f).cubes (off_cover_of (on_cover_of f)))) → P (dual_of f)
by_cases P f none all some = elim (cases_Bool (nat_eq (set.len f.on) 0)) [
  | inl e ↦ let empty = set.empty_of_len f.on (eqb-true _ _ e) in subst P (sym (dual_of-none f empty)) (none empty)
  | inr e ↦
      let full : f.on ≡ set.empty → ⊥ = λ h. true≢false (sym (len-none f.on h) ∙ e) in
      elim (cases_Bool (nat_eq (set.len f.off) 0)) [
        | inl g ↦ let empty = set.empty_of_len f.off (eqb-true _ _ g) in subst P (sym (dual_of-all f full empty)) (all empty)
        | inr g ↦
            let more : f.off ≡ set.empty → ⊥ = λ h. true≢false (sym (len-none f.off h) ∙ g) in
            subst P (sym (dual_of-some f full more)) (some full more)
      ]
]

not_in_empty : (s : Assignments) (x : ℕ) → s ≡ set.empty → set.contains s x ≡ true → ⊥
not_in_empty s x e one = true≢false (sym one ∙ ap (λ t. set.contains t x) e ∙ set.contains-empty nat_cmp x)

pub dual_of-Realises : (f : Function) → IsFunction f → Realises (dual_of f) f
dual_of-Realises f h = by_cases (λ g. Realises g f) f
    (λ none. record { on = λ x one. absurd (not_in_empty f.on x none one); off = λ x _. single-Zero x })
    (λ none. record { on = λ x _. single-One x; off = λ x one _. not_in_empty f.off x none one })
    (λ some more. record {
      on = λ x one. between-on (on_cover_of f).cubes (off_cover_of (on_cover_of f)) x (covers-AreApart f h) (some_offs f h more) (on_cover-has f h x one);
      off = λ x one. between-off (on_cover_of f).cubes (off_cover_of (on_cover_of f)) x (covers-AreApart f h) (off_cover-has f h x one);
    })

pub dual_of-IsOver : (f : Function) → IsFunction f → IsOver f.inputs (dual_of f)
dual_of-IsOver f h = by_cases (IsOver f.inputs) f
    (λ none. All-cons (NamesBelow f.inputs) Zero [] tt (All-nil (NamesBelow f.inputs)))
    (λ none. All-cons (NamesBelow f.inputs) One [] tt (All-nil (NamesBelow f.inputs)))
    (λ some more. IsOver-dual_between f.inputs (on_cover_of f).cubes (off_cover_of (on_cover_of f)) (covers-AreApart f h) (on_cover-AreProducts f h).literals)

pub same_function : (f : Function) (inputs : ℕ) (on off : Assignments) → inputs ≡ f.inputs → on ≡ f.on → off ≡ f.off → record { inputs = inputs; on = on; off = off } ≡ f
same_function f inputs on off p q r = λ i. record { inputs = p i; on = q i; off = r i }
