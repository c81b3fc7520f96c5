-- The numbers of controls and of cells, and the values that three tables give to variables.
use Rattle.std.proofs.Common.{◌≡◌, ℕ, ◌+◌, ◌-◌, ◌*◌, ◌/◌, ◌%◌, ◌<◌, ◌≤◌, Bool, true, cond, ltb, length, get_or, refl, sym, ap, ◌∙◌, subst, arith}
use Rattle.std.proofs.lemmas.Bool.{false≢true, cond-true, cond-false, eqb-true, eq-eqb, lt-ltb, le-ltb}
use Rattle.std.proofs.lemmas.List.{get_or_default}
use Rattle.std.proofs.lemmas.Nat.{div-mul-add, mod-mul-add, mul-add-lt, div_below, mod_below}
use Rattle.lattice_grid.specs.declared.control.Control.{Control}
use Rattle.lattice_grid.specs.declared.control.Control.TheVariants.{Zero, One, Plain, Bar}
use Rattle.lattice_grid.specs.declared.shape.Place.{Place}
use Rattle.lattice_grid.specs.Path.{IsWithin}
use Rattle.lattice_grid.specs.Rectangle.{Size}
use Rattle.lattice_grid.proofs.Tools.{place_eq, controls-Contains}
use Rattle.lattice_grid.specs.Rails.{MayStand, controls_of}
use Rattle.reach_encoding.specs.Encoding.{place_of, number_of}
use Rattle.reach_encoding.specs.ModelOf.{is_control}

-- the test of two controls
pub is_control-true : (a b : Control) → is_control a b ≡ true → a ≡ b
is_control-true Zero Zero e = refl
is_control-true Zero One e = absurd (false≢true e)
is_control-true Zero (Plain j) e = absurd (false≢true e)
is_control-true Zero (Bar j) e = absurd (false≢true e)
is_control-true One Zero e = absurd (false≢true e)
is_control-true One One e = refl
is_control-true One (Plain j) e = absurd (false≢true e)
is_control-true One (Bar j) e = absurd (false≢true e)
is_control-true (Plain i) Zero e = absurd (false≢true e)
is_control-true (Plain i) One e = absurd (false≢true e)
is_control-true (Plain i) (Plain j) e = ap Plain (eqb-true i j e)
is_control-true (Plain i) (Bar j) e = absurd (false≢true e)
is_control-true (Bar i) Zero e = absurd (false≢true e)
is_control-true (Bar i) One e = absurd (false≢true e)
is_control-true (Bar i) (Plain j) e = absurd (false≢true e)
is_control-true (Bar i) (Bar j) e = ap Bar (eqb-true i j e)

pub is_control-same : (a : Control) → is_control a a ≡ true
is_control-same Zero = refl
is_control-same One = refl
is_control-same (Plain i) = eq-eqb i i refl
is_control-same (Bar i) = eq-eqb i i refl

-- a control that may stand has a number
pub control_found : (n rails : ℕ) (c : Control) → MayStand n rails c → (k : ℕ) × (k < length (controls_of n rails)) × (get_or (controls_of n rails) k Zero ≡ c)
control_found n rails c h =
    let at = controls-Contains n rails c h in
    (at.0, at.1, get_or_default (controls_of n rails) at.0 Zero c at.1 ∙ at.2)

-- the place of a number that is below the number of cells
pub place_of-within : (s : Size) (p : ℕ) → 1 ≤ s.cols → p < s.rows * s.cols → IsWithin s (place_of s p)
place_of-within s p some below = (div_below p s.cols s.rows some below, mod_below p s.cols some)

pub place_of-number : (s : Size) (p : Place) → IsWithin s p → place_of s (number_of s p) ≡ p
place_of-number s p h = place_eq (place_of s (number_of s p)) p (div-mul-add p.row s.cols p.col h.1) (mod-mul-add p.row s.cols p.col h.1)

pub number_of-below : (s : Size) (p : Place) → IsWithin s p → number_of s p < s.rows * s.cols
number_of-below s p h = omega (arith, mul-add-lt p.row s.cols p.col s.rows h.0 h.1)

-- a number of a cell, and what holds of its place
pub cell_numbered : (s : Size) (P : Place → Type 0) (at : Place) (p : ℕ) → IsWithin s at → p ≡ number_of s at → P at → (p < s.rows * s.cols) × P (place_of s p)
cell_numbered s P at p within e holds =
    subst (λ n. (n < s.rows * s.cols) × P (place_of s n)) (sym e) (number_of-below s at within, subst P (sym (place_of-number s at within)) holds)

-- three tables one after another: of P rows of k, and twice m rows of P
abbrev pub value_by : (P k m : ℕ) → (ℕ → ℕ → Bool) → (ℕ → ℕ → Bool) → (ℕ → ℕ → Bool) → ℕ → Bool
value_by P k m a b c i =
    cond (ltb i (P * k)) (a (i / k) (i % k)) (cond (ltb i (P * k + m * P)) (b ((i - P * k) / P) ((i - P * k) % P)) (c ((i - (P * k + m * P)) / P) ((i - (P * k + m * P)) % P)))

-- an entry of a table of rows of w
entry : (f : ℕ → ℕ → Bool) (i w row col : ℕ) → i ≡ row * w + col → col < w → f (i / w) (i % w) ≡ f row col
entry f i w row col e within =
    ap (λ i. f (i / w) (i % w)) e ∙ ap (λ r. f r ((row * w + col) % w)) (div-mul-add row w col within) ∙ ap (f row) (mod-mul-add row w col within)

module _ (P k m : ℕ) (a b c : ℕ → ℕ → Bool) where
  pub value_by-first : (i row col : ℕ) → i ≡ row * k + col → row < P → col < k → value_by P k m a b c i ≡ a row col
  value_by-first i row col e in_rows in_cols =
      let inside = mul-add-lt row k col P in_rows in_cols in
      cond-true (ltb i (P * k)) _ _ (lt-ltb i (P * k) (omega arith)) ∙ entry a i k row col e in_cols

  pub value_by-second : (i row col : ℕ) → i ≡ P * k + row * P + col → row < m → col < P → value_by P k m a b c i ≡ b row col
  value_by-second i row col e in_rows in_cols =
      let inside = mul-add-lt row P col m in_rows in_cols in
      cond-false (ltb i (P * k)) _ _ (le-ltb i (P * k) (omega arith)) ∙ cond-true (ltb i (P * k + m * P)) _ _ (lt-ltb i (P * k + m * P) (omega arith))
      ∙ entry b (i - P * k) P row col (omega arith) in_cols

  pub value_by-third : (i row col : ℕ) → i ≡ P * k + m * P + row * P + col → row < m → col < P → value_by P k m a b c i ≡ c row col
  value_by-third i row col e in_rows in_cols =
      let inside = mul-add-lt row P col m in_rows in_cols in
      cond-false (ltb i (P * k)) _ _ (le-ltb i (P * k) (omega arith)) ∙ cond-false (ltb i (P * k + m * P)) _ _ (le-ltb i (P * k + m * P) (omega arith))
      ∙ entry c (i - (P * k + m * P)) P row col (omega arith) in_cols
