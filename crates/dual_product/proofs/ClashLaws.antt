-- The literal at the least input at which two cubes clash.
use Rattle.std.proofs.Common.{◌≡◌, ℕ, suc, zero, ◌+◌, ◌≤◌, ◌<◌, ◌⊎◌, inl, inr, Bool, true, false, cond, not, Some, None, Option, refl, sym, ap, ap₂, ◌∙◌, subst, arith}
use Rattle.std.specs.Bool.{beq}
use Rattle.std.proofs.lemmas.Bool.{cases_Bool, cases_lt, cases_eq, false_from_ne_true, not-true, true≢false, false≢true}
use Rattle.std.proofs.lemmas.Option.{none-some}
use Rattle.cube_core.specs.Assignment.{bit}
use Rattle.cube_core.specs.Cube.{Product, IsProduct, literal_of, agrees, in_cube, Meet, ClashAt, IsLeastClash}
use Rattle.cube_core.specs.Rising.{least_from}
use Rattle.cube_core.proofs.Tools.{in_cube-all, literal_of-past, no_clash-Meet, literal_of-few}
use Rattle.cover_make.specs.Cubes.{HasInputsBelow}
use Rattle.lattice_grid.specs.Control.{value_of, NamesBelow}
use Rattle.lattice_grid.proofs.Tools.{least_from-first}
use Rattle.dual_product.specs.Dual.{are_opposite, clash_of, control_of, literal_against}

-- whether two cubes clash at an input
abbrev clash_at : Product → Product → ℕ → Bool
clash_at c d i = are_opposite (literal_of c i) (literal_of d i)

clash_at-true : (c d : Product) (i : ℕ) → ClashAt c d i → clash_at c d i ≡ true
clash_at-true c d i clash = ap₂ are_opposite clash.1 clash.2 ∙ by_value clash.0
  where
    by_value : (b : Bool) → not (beq b (not b)) ≡ true
    by_value true = refl
    by_value false = refl

ClashAt-from_test : (c d : Product) (i : ℕ) → clash_at c d i ≡ true → ClashAt c d i
ClashAt-from_test c d i e = by_literals (literal_of c i) (literal_of d i) refl refl e
  where
    by_literals : (l m : Option Bool) → literal_of c i ≡ l → literal_of d i ≡ m → are_opposite l m ≡ true → ClashAt c d i
    by_literals None m p q e = absurd (false≢true e)
    by_literals (Some a) None p q e = absurd (false≢true e)
    by_literals (Some true) (Some true) p q e = absurd (false≢true e)
    by_literals (Some true) (Some false) p q e = (true, p, q)
    by_literals (Some false) (Some true) p q e = (false, p, q)
    by_literals (Some false) (Some false) p q e = absurd (false≢true e)

-- the least clash is the one that the definition gives
pub clash_of-least : (c d : Product) (i : ℕ) → IsLeastClash c d i → clash_of c d ≡ i
unfolding clash_of
clash_of-least c d i h =
    let few : i < 10 = h.few in
    least_from-first (clash_at c d) 10 0 i (omega arith) (omega arith) (clash_at-true c d i h.here)
    (λ j before. false_from_ne_true (clash_at c d j) (λ e. h.least j before (ClashAt-from_test c d j e)))

-- a search finds a number that passes, or none does
least_from-cases : (test : ℕ → Bool) (many i : ℕ) → (test (least_from test many i) ≡ true) ⊎ ((j : ℕ) → i ≤ j → j < i + many → test j ≡ false)
least_from-cases test zero i = inr (λ j low high. absurd (omega arith))
least_from-cases test (suc many) i = elim (cases_Bool (test i)) [
  | inl passes ↦ inl (ap test (ap (λ b. cond b i (least_from test many (suc i))) passes) ∙ passes)
  | inr fails ↦
      let here : least_from test (suc many) i ≡ least_from test many (suc i) = ap (λ b. cond b i (least_from test many (suc i))) fails in
      elim (least_from-cases test many (suc i)) [
        | inl later ↦ inl (ap test here ∙ later)
        | inr none ↦ inr (λ j low high. elim (cases_eq i j) [
          | inl same ↦ ap test (sym same) ∙ fails
          | inr other ↦ none j (omega arith) (omega arith)
        ])
      ]
]

-- two cubes that have no assignment in common clash at that input
pub clash_of-ClashAt : (c d : Product) → IsProduct c → IsProduct d → (Meet c d → ⊥) → ClashAt c d (clash_of c d)
unfolding clash_of
clash_of-ClashAt c d hc hd apart = elim (least_from-cases (clash_at c d) 10 0) [
  | inl found ↦ ClashAt-from_test c d _ found
  | inr none ↦ absurd (apart (no_clash-Meet c d hc hd (λ i clash. elim (cases_lt i 10) [
    | inl few ↦ true≢false (sym (clash_at-true c d i clash) ∙ none i (omega arith) (omega arith))
    | inr past ↦ none-some clash.0 (sym (literal_of-past c hc i past) ∙ clash.1)
  ])))
]

-- ---- the control of that literal

control_of-on : (wanted b : Bool) (i x : ℕ) → bit x i ≡ b → agrees (Some wanted) b ≡ true → value_of (control_of (Some wanted) i) x ≡ true
control_of-on true b i x e h = e ∙ h
control_of-on false b i x e h = ap not e ∙ h

control_of-off : (wanted b : Bool) (i x : ℕ) → bit x i ≡ b → agrees (Some (not wanted)) b ≡ true → value_of (control_of (Some wanted) i) x ≡ false
control_of-off true b i x e h = e ∙ not-true b h
control_of-off false b i x e h = ap not (e ∙ h)

-- it is on where the first cube has the assignment, and off where the second has it
pub literal_against-on : (c d : Product) (x : ℕ) → IsProduct c → ClashAt c d (clash_of c d) → in_cube c x ≡ true → value_of (literal_against c d) x ≡ true
literal_against-on c d x h clash one =
    let i : ℕ = clash_of c d in
    ap (λ l. value_of (control_of l i) x) clash.1
    ∙ control_of-on clash.0 (bit x i) i x refl (ap (λ l. agrees l (bit x i)) (sym clash.1) ∙ in_cube-all c x one i (literal_of-few c h i clash.0 clash.1))

pub literal_against-off : (c d : Product) (x : ℕ) → IsProduct c → ClashAt c d (clash_of c d) → in_cube d x ≡ true → value_of (literal_against c d) x ≡ false
literal_against-off c d x h clash one =
    let i : ℕ = clash_of c d in
    ap (λ l. value_of (control_of l i) x) clash.1
    ∙ control_of-off clash.0 (bit x i) i x refl (ap (λ l. agrees l (bit x i)) (sym clash.2) ∙ in_cube-all d x one i (literal_of-few c h i clash.0 clash.1))

-- it names an input of the first cube
pub literal_against-NamesBelow : (n : ℕ) (c d : Product) → HasInputsBelow n c → ClashAt c d (clash_of c d) → NamesBelow n (literal_against c d)
literal_against-NamesBelow n c d few clash =
    subst (λ (l : Option Bool). NamesBelow n (control_of l (clash_of c d))) (sym clash.1) (by_value clash.0 (few (clash_of c d) clash.0 clash.1))
  where
    by_value : (wanted : Bool) → clash_of c d < n → NamesBelow n (control_of (Some wanted) (clash_of c d))
    by_value true below = below
    by_value false below = below
