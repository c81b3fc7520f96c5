-- The lattice with one column for each on assignment realises its function, and is small.
use Rattle.std.proofs.Common.{◌≡◌, ◌≢◌, ℕ, suc, zero, ◌+◌, ◌-◌, ◌*◌, ◌/◌, ◌%◌, ◌^◌, ◌≤◌, ◌<◌, inl, inr, Bool, true, false, cond, not, eqb, List, [], ◌∷◌, ◌++◌, length, get_or, refl, sym, ap, ◌∙◌, subst, arith, length-append}
use Rattle.std.specs.Prelude.{All}
use Rattle.std.specs.FinSet as set
use Rattle.std.proofs.Math.Pow.{pow_mono}
use Rattle.std.proofs.lemmas.Bool.{true≢false, false≢true, cases_eq, cases_Bool, both_ways, eq-eqb, ne_eqb, cond-true, cond-false}
use Rattle.std.proofs.lemmas.List.Elements.{All-nil, All-cons, All-head, All-tail}
use Rattle.std.proofs.lemmas.Nat.{mul-le}
use Rattle.cube_core.specs.Assignment.{bit}
use Rattle.cube_core.specs.Function.{Function, IsFunction}
use Rattle.cube_core.specs.Members.{Assignments}
use Rattle.cube_core.specs.Rising.{rising}
use Rattle.cube_core.proofs.Tools.{empty_from_none}
use Rattle.lattice_grid.specs.declared.control.Control.{Control}
use Rattle.lattice_grid.specs.declared.control.Control.TheVariants.{Zero, One, Plain, Bar}
use Rattle.lattice_grid.specs.declared.shape.Place.{Place}
use Rattle.lattice_grid.specs.Columns.{literal_at, literal_or_one, ons_of, IsColumns, IsNotLacking}
use Rattle.lattice_grid.specs.Control.{value_of, NamesBelow}
use Rattle.lattice_grid.specs.Drawn.{IsDrawn}
use Rattle.lattice_grid.specs.Lattice.{Lattice, control_at, is_on_at}
use Rattle.lattice_grid.specs.Path.{IsWithin, AreFourNeighbours, IsChain, IsCrossing}
use Rattle.lattice_grid.specs.Rails.{is_allowed, MayStand, IsOverRails}
use Rattle.lattice_grid.specs.Realise.{Joined, Realises}
use Rattle.lattice_grid.specs.Rectangle.{Size}
use Rattle.lattice_grid.specs.Start.{AreToldApart}
use Rattle.lattice_grid.proofs.DrawnLaws.{drawn_All}
use Rattle.lattice_grid.proofs.NeighbourLaws.{place_eq}
use Rattle.lattice_grid.proofs.PathLaws.{joined_by_column, meets_row}
use Rattle.lattice_grid.proofs.RealiseLaws.{on_places}
use Rattle.lattice_grid.proofs.RisingLaws.{HasPlace, HasPlace-rising, All-rising, length-rising}
use Rattle.lattice_grid.proofs.StartLaws.{told_all}

-- ---- the cells
-- the control at a place of the picture
abbrev pub column_control : ℕ → List ℕ → Place → Control
column_control rails ons p = cond (eqb (p.col % 2) 0) (literal_or_one rails (get_or ons (p.col / 2) 0) p.row) Zero

even_control : (rails : ℕ) (ons : List ℕ) (i k : ℕ) → column_control rails ons (record { row = i; col = 2 * k }) ≡ literal_or_one rails (get_or ons k 0) i
even_control rails ons i k =
    let even : 2 * k % 2 ≡ 0 = omega arith in
    let half : 2 * k / 2 ≡ k = omega arith in
    cond-true (eqb (2 * k % 2) 0) (literal_or_one rails (get_or ons (2 * k / 2) 0) i) Zero (eq-eqb (2 * k % 2) 0 even) ∙ ap (λ j. literal_or_one rails (get_or ons j 0) i) half

odd_control : (rails : ℕ) (ons : List ℕ) (i k : ℕ) → column_control rails ons (record { row = i; col = 2 * k + 1 }) ≡ Zero
odd_control rails ons i k =
    let odd : (2 * k + 1) % 2 ≢ 0 = omega arith in
    cond-false (eqb ((2 * k + 1) % 2) 0) (literal_or_one rails (get_or ons ((2 * k + 1) / 2) 0) i) Zero (ne_eqb ((2 * k + 1) % 2) 0 odd)

-- the lattice that is drawn has these columns
pub IsColumns-drawn : (f : Function) (rails : ℕ) (ons : List ℕ) (s : Size) (g : Lattice) → ons ≡ ons_of f → s.rows ≡ f.inputs → s.cols + 1 ≡ 2 * length ons → IsDrawn (column_control rails ons) s g → IsColumns f rails g
IsColumns-drawn f rails ons s g e rows cols h = record {
  rows = ap (λ z. z.rows) h.size_is ∙ rows;
  cols = ap (λ z. z.cols + 1) h.size_is ∙ cols ∙ ap (λ xs. 2 * length xs) e;
  column = λ i k below within.
      let many = ap length e in
      h.same (record { row = i; col = 2 * k }) (omega arith, omega arith) ∙ even_control rails ons i k ∙ ap (λ xs. literal_or_one rails (get_or xs k 0) i) e;
  between = λ i k below within.
      let many = ap length e in
      h.same (record { row = i; col = 2 * k + 1 }) (omega arith, omega arith) ∙ odd_control rails ons i k;
}

-- ---- literals
-- the literal or `1` is 1 at its assignment
literal_or_one-on : (rails x i : ℕ) → value_of (literal_or_one rails x i) x ≡ true
literal_or_one-on rails x i = go (is_allowed rails (literal_at x i)) where
  literal : (b : Bool) → bit x i ≡ b → value_of (cond b (Plain i) (Bar i)) x ≡ true
  literal true e = e
  literal false e = ap not e

  go : (b : Bool) → value_of (cond b (literal_at x i) One) x ≡ true
  go true = literal (bit x i) refl
  go false = refl

-- it may stand
literal_or_one-stands : (n rails x i : ℕ) → i < n → MayStand n rails (literal_or_one rails x i)
literal_or_one-stands n rails x i below = go (is_allowed rails (literal_at x i)) refl where
  names : (b : Bool) → NamesBelow n (cond b (Plain i) (Bar i))
  names true = below
  names false = below

  go : (b : Bool) → is_allowed rails (literal_at x i) ≡ b → MayStand n rails (cond b (literal_at x i) One)
  go true e = (names (bit x i), e)
  go false e = (tt, refl)

-- where it is allowed it is the literal
literal_or_one-allowed : (rails x i : ℕ) (c : Control) → literal_at x i ≡ c → is_allowed rails c ≡ true → literal_or_one rails x i ≡ c
literal_or_one-allowed rails x i c e allowed = cond-true (is_allowed rails (literal_at x i)) (literal_at x i) One (ap (is_allowed rails) e ∙ allowed) ∙ e

-- a row whose cell in the column of x is off at y
pub record IsBlocked (n rails x y : ℕ) : Type 0 where
  pub row : ℕ
  pub below : row < n
  pub off : value_of (literal_or_one rails x row) y ≡ false

blocked : (n rails x y : ℕ) → AreToldApart n rails x y → IsBlocked n rails x y
blocked n rails x y told = go told.literal told.stands told.on told.off where
  go : (c : Control) → MayStand n rails c → value_of c x ≡ true → value_of c y ≡ false → IsBlocked n rails x y
  go Zero stands on off = absurd (false≢true on)
  go One stands on off = absurd (true≢false off)
  go (Plain i) stands on off = record {
    row = i;
    below = stands.0;
    off = ap (λ c. value_of c y) (literal_or_one-allowed rails x i (Plain i) (cond-true (bit x i) (Plain i) (Bar i) on) stands.1) ∙ off;
  }
  go (Bar i) stands on off = record {
    row = i;
    below = stands.0;
    off = ap (λ c. value_of c y) (literal_or_one-allowed rails x i (Bar i) (cond-false (bit x i) (Plain i) (Bar i) (Rattle.std.proofs.lemmas.Bool.not-true (bit x i) on)) stands.1) ∙ off;
  }

-- ---- paths
-- a chain over even columns stays in its column
stays : (p : Place) (path : List Place) → All (λ q. q.col % 2 ≡ 0) (p ∷ path) → IsChain AreFourNeighbours (p ∷ path) → All (λ q. q.col ≡ p.col) (p ∷ path)
stays p [] even chained = All-cons (λ q. q.col ≡ p.col) p [] refl (All-nil (λ q. q.col ≡ p.col))
stays p (q ∷ path) even chained =
    let here : p.col % 2 ≡ 0 = All-head (λ q. q.col % 2 ≡ 0) p (q ∷ path) even in
    let rest : All (λ q. q.col % 2 ≡ 0) (q ∷ path) = All-tail (λ q. q.col % 2 ≡ 0) p (q ∷ path) even in
    let there : q.col % 2 ≡ 0 = All-head (λ q. q.col % 2 ≡ 0) q path rest in
    let same : q.col ≡ p.col = elim chained.0 [
      | inl beside ↦ elim beside.1 [ inl right ↦ absurd (omega arith) | inr left ↦ absurd (omega arith) ]
      | inr below ↦ sym below.0
    ] in
    All-cons (λ q. q.col ≡ p.col) p (q ∷ path) refl (subst (λ c. All (λ z. z.col ≡ c) (q ∷ path)) same (stays q path rest chained.1))

module _ (f : Function) (ok : IsFunction f) (rails : ℕ) (g : Lattice) (h : IsColumns f rails g) where
  -- an odd column is off
  odd_off : (y : ℕ) (p : Place) → IsWithin g.size p → p.col % 2 ≢ 0 → is_on_at g y p ≡ false
  odd_off y p within odd =
      let k : ℕ = p.col / 2 in
      let col : p.col ≡ 2 * k + 1 = omega arith in
      let rows = h.rows in
      let cols = h.cols in
      let last = within.1 in
      let first = within.0 in
      let place : p ≡ record { row = p.row; col = 2 * k + 1 } = place_eq p (record { row = p.row; col = 2 * k + 1 }) refl col in
      ap (λ q. value_of (control_at g q) y) place ∙ ap (λ c. value_of c y) (h.between p.row k (omega arith) (omega arith))

  -- so cells that are on lie in even columns
  even_on : (y : ℕ) (p : Place) → IsWithin g.size p → is_on_at g y p ≡ true → p.col % 2 ≡ 0
  even_on y p within on = elim (cases_eq (p.col % 2) 0) [
    | inl even ↦ even
    | inr odd ↦ absurd (both_ways (is_on_at g y p) (odd_off y p within odd) on)
  ]

  on_column : (x : ℕ) → 1 ≤ f.inputs → HasPlace (ons_of f) x → Joined g x
  on_column x some at =
      let rows = h.rows in
      let cols = h.cols in
      let inside = at.within in
      joined_by_column g.size (is_on_at g x) (2 * at.place) (omega arith) (omega arith)
      (λ row below. ap (λ c. value_of c x) (h.column row at.place (omega arith) at.within ∙ ap (λ z. literal_or_one rails z row) (at.here 0)) ∙ literal_or_one-on rails x row)

  off_columns : (y : ℕ) → ((x : ℕ) → set.contains f.on x ≡ true → AreToldApart f.inputs rails x y) → Joined g y → ⊥
  off_columns y told joined = go joined.0 joined.1 where
    go : (path : List Place) → IsCrossing g.size (is_on_at g y) AreFourNeighbours (λ p. p.row ≡ 0) (λ p. p.row + 1 ≡ g.size.rows) path → ⊥
    go [] c = c.starts
    go (p ∷ path) c =
        let even : All (λ q. q.col % 2 ≡ 0) (p ∷ path) = (λ k d within. even_on y (get_or (p ∷ path) k d) (c.inside k d within) (c.in_set k d within)) in
        let same = stays p path even c.chained in
        let k : ℕ = p.col / 2 in
        let parity : p.col % 2 ≡ 0 = even 0 p (omega arith) in
        let col : p.col ≡ 2 * k = omega arith in
        let here = c.inside 0 p (omega arith) in
        let last = here.1 in
        let cols = h.cols in
        let rows = h.rows in
        let below : k < length (ons_of f) = omega arith in
        let x : ℕ = get_or (ons_of f) k 0 in
        let block = blocked f.inputs rails x y (told x (All-rising (2 ^ f.inputs) f.on k 0 below).1) in
        let stop = block.below in
        let first = c.starts in
        let met = meets_row (λ q. (q.col ≡ p.col) × (is_on_at g y q ≡ true)) g.size.rows block.row (omega arith) p path (λ j d within. (same j d within, c.in_set j d within)) c.chained (omega (arith, first)) c.ends in
        let place : met.place ≡ record { row = block.row; col = 2 * k } = place_eq met.place (record { row = block.row; col = 2 * k }) met.at (met.holds.0 ∙ col) in
        true≢false (sym met.holds.1 ∙ ap (λ q. value_of (control_at g q) y) place ∙ ap (λ c. value_of c y) (h.column block.row k stop below) ∙ block.off)

  pub columns_realises : IsNotLacking f rails → Realises g f
  columns_realises none = record {
    on = λ x here. on_column x ok.some (on_places f ok x here);
    off = λ y here. off_columns y (λ x on. told_all f rails x y ok none on here);
  }

-- ---- over the rails
pub columns_over : (f : Function) (rails : ℕ) (ons : List ℕ) (s : Size) (g : Lattice) → s.rows ≡ f.inputs → IsDrawn (column_control rails ons) s g → IsOverRails f.inputs rails g
columns_over f rails ons s g rows h = drawn_All (MayStand f.inputs rails) (column_control rails ons) s g h (λ p within.
    let first = within.0 in
    stands (eqb (p.col % 2) 0) (get_or ons (p.col / 2) 0) p.row (omega arith)) where
      stands : (b : Bool) (x i : ℕ) → i < f.inputs → MayStand f.inputs rails (cond b (literal_or_one rails x i) Zero)
      stands true x i below = literal_or_one-stands f.inputs rails x i below
      stands false x i below = (tt, refl)

-- ---- how many
-- a set that lacks a number has fewer members
length-rising_lacking : (n : ℕ) (s : Assignments) (y : ℕ) → y < n → set.contains s y ≡ false → length (rising n s) < n
length-rising_lacking zero s y below lacks = absurd (omega arith)
length-rising_lacking (suc n) s y below lacks = elim (cases_eq y n) [
  | inl same ↦
      let few = length-rising n s in
      let here : length (rising (suc n) s) ≡ length (rising n s) = ap (λ b. length (cond b (rising n s ++ n ∷ []) (rising n s))) (ap (set.contains s) (sym same) ∙ lacks) in
      omega arith
  | inr other ↦
      let before = length-rising_lacking n s y (omega arith) lacks in
      elim (set.contains s n) as (λ b. length (cond b (rising n s ++ n ∷ []) (rising n s)) < suc n) [
        | true ↦ omega (arith, length-append (rising n s) (n ∷ []), before)
        | false ↦ omega arith
      ]
]

-- a set that is not empty has a member
pub some_member : (n : ℕ) (s : Assignments) → ((x : ℕ) → set.contains s x ≡ true → x < n) → s ≢ set.empty → 0 < length (rising n s)
some_member n s below some = elim (cases_eq (length (rising n s)) 0) [
  | inl none ↦ absurd (some (empty_from_none s (λ x here.
      let at = HasPlace-rising n s x (below x here) here in
      let within = at.within in
      absurd (omega arith))))
  | inr other ↦ omega arith
]

-- what the code needs of the number of on assignments
pub record HasColumns (f : Function) (many : ℕ) : Type 0 where
  pub some : 1 ≤ many
  pub few : many ≤ 1023
  pub cells : f.inputs * (2 * many - 1) ≤ 20450

pub has_columns : (f : Function) (ons : List ℕ) → IsFunction f → f.on ≢ set.empty → f.off ≢ set.empty → ons ≡ ons_of f → HasColumns f (length ons)
has_columns f ons ok on off e =
    let some = some_member (2 ^ f.inputs) f.on ok.on_below on in
    let more = some_member (2 ^ f.inputs) f.off ok.off_below off in
    let y = All-rising (2 ^ f.inputs) f.off 0 0 more in
    let fewer = length-rising_lacking (2 ^ f.inputs) f.on (get_or (rising (2 ^ f.inputs) f.off) 0 0) y.0 (Rattle.std.proofs.lemmas.Bool.false_from_ne_true _ (λ here. ok.disjoint _ here y.1)) in
    let all : 2 ^ f.inputs ≤ 2 ^ 10 = pow_mono ok.few in
    let many = ap length e in
    let few : length ons ≤ 1023 = omega arith in
    let inputs = ok.few in
    record { some = omega arith; few = few; cells = mul-le f.inputs (2 * length ons - 1) 10 2045 inputs (omega arith) }

-- what the call promises of its lattice
pub record AreColumns (f : Function) (rails : ℕ) (g : Lattice) : Type 0 where
  pub cells : IsColumns f rails g
  pub few : g.size.rows * g.size.cols ≤ 20450
  pub over : IsOverRails f.inputs rails g
  pub realises : Realises g f

pub columns_read : (f : Function) (rails : ℕ) (ons : List ℕ) (s : Size) → IsFunction f → f.on ≢ set.empty → f.off ≢ set.empty → IsNotLacking f rails → ons ≡ ons_of f → s.rows ≡ f.inputs → s.cols + 1 ≡ 2 * length ons
    → (g : Lattice) → IsDrawn (column_control rails ons) s g → AreColumns f rails g
columns_read f rails ons s ok on off none e rows cols g h =
    let many = has_columns f ons ok on off e in
    let cells = IsColumns-drawn f rails ons s g e rows cols h in
    let some = many.some in
    let width : g.size.cols ≡ 2 * length ons - 1 = (let same = ap (λ z. z.cols) h.size_is in omega arith) in
    record {
      cells = cells;
      few = subst (λ r. r * g.size.cols ≤ 20450) (sym cells.rows) (subst (λ w. f.inputs * w ≤ 20450) (sym width) many.cells);
      over = columns_over f rails ons s g rows h;
      realises = columns_realises f ok rails g cells none;
    }
