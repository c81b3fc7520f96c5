-- Each grid has a path or a cut: the on cells that the top leads to, and the off cells that the left leads to, cannot both stop short.
use Rattle.std.proofs.Common.{◌≡◌, ℕ, zero, suc, ◌+◌, ◌-◌, ◌<◌, ◌≤◌, Bool, true, false, refl, subst, inl, inr, ⊎_elim, arith, not}
use Rattle.std.specs.Prelude.{◌⊎◌}
use Rattle.std.proofs.lemmas.Bool.{false≢true, true≢false, both_ways, false_from_ne_true, not_from_false}
use Rattle.lattice_grid.specs.declared.shape.Place.{Place}
use Rattle.lattice_grid.specs.Rectangle.{Size}
use Rattle.lattice_grid.specs.Path.{DifferByAtMostOne, AreFourNeighbours, AreEightNeighbours, JoinedBy, CutBy}
use Rattle.path_meaning.specs.Crossing.{IsJoinedOrCut, IsEitherOr}
use Rattle.path_meaning.proofs.Never.{never_both}
use Rattle.path_meaning.proofs.Walks.{path_from}
use Rattle.path_meaning.proofs.Decisions.{found_or_none}
use Rattle.path_meaning.proofs.Sides.{S, K, S_walk, K_walk, S_start, K_start, S_step, K_step}
use Rattle.path_meaning.proofs.Borders.{not_both_stop}

-- a row above the grid, where the answer is always b
abbrev below : Bool → (Place → Bool) → ℕ → ℕ → Bool
below b f zero c = b
below b f (suc r) c = f (record { row = r; col = c })

shape_eq : (s t : Size) → s.rows ≡ t.rows → s.cols ≡ t.cols → s ≡ t
shape_eq s t e f = λ i. record { rows = e i; cols = f i }

abbrev grid : ℕ → ℕ → Size
grid n m = record { rows = suc n; cols = suc m }

module _ (n m : ℕ) (on : Place → Bool) where
  S_down : (r c : ℕ) → r < suc n → c ≤ m → below true (S (grid n m) on) r c ≡ true → below true (S (grid n m) on) (suc r) c ≡ false → below true on (suc r) c ≡ false
  S_down zero c h k e f = false_from_ne_true (on (record { row = 0; col = c })) (λ g. both_ways (S (grid n m) on (record { row = 0; col = c })) f (S_start (grid n m) on (record { row = 0; col = c }) ((omega arith, omega arith), g) refl))
  S_down (suc r) c h k e f = S_step (grid n m) on (record { row = r; col = c }) (record { row = suc r; col = c }) (omega arith, omega arith) (inr (refl, inl (omega arith))) e f

  S_up : (r c : ℕ) → r < suc n → c ≤ m → below true (S (grid n m) on) (suc r) c ≡ true → below true (S (grid n m) on) r c ≡ false → below true on r c ≡ false
  S_up zero c h k e f = absurd (true≢false f)
  S_up (suc r) c h k e f = S_step (grid n m) on (record { row = suc r; col = c }) (record { row = r; col = c }) (omega arith, omega arith) (inr (refl, inr (omega arith))) e f

  S_right : (r c : ℕ) → r ≤ suc n → c < m → below true (S (grid n m) on) r c ≡ true → below true (S (grid n m) on) r (suc c) ≡ false → below true on r (suc c) ≡ false
  S_right zero c h k e f = absurd (true≢false f)
  S_right (suc r) c h k e f = S_step (grid n m) on (record { row = r; col = c }) (record { row = r; col = suc c }) (omega arith, omega arith) (inl (refl, inl (omega arith))) e f

  S_left : (r c : ℕ) → r ≤ suc n → c < m → below true (S (grid n m) on) r (suc c) ≡ true → below true (S (grid n m) on) r c ≡ false → below true on r c ≡ false
  S_left zero c h k e f = absurd (true≢false f)
  S_left (suc r) c h k e f = S_step (grid n m) on (record { row = r; col = suc c }) (record { row = r; col = c }) (omega arith, omega arith) (inl (refl, inr (omega arith))) e f

  K_near : (a x b y : ℕ) → a ≤ suc n → x ≤ m → b ≤ suc n → y ≤ m → DifferByAtMostOne a b → DifferByAtMostOne x y → below false (K (grid n m) on) a x ≡ true → below true on b y ≡ false → below false (K (grid n m) on) b y ≡ true
  K_near zero x b y h k h' k' l l' e f = absurd (false≢true e)
  K_near (suc a) x zero y h k h' k' l l' e f = absurd (true≢false f)
  K_near (suc a) x (suc b) y h k h' k' l l' e f = K_step (grid n m) on (record { row = a; col = x }) (record { row = b; col = y }) (omega arith, omega arith) (omega (arith, l), omega (arith, l)) l' e f

  K_first : (r : ℕ) → r ≤ suc n → below true on r 0 ≡ false → below false (K (grid n m) on) r 0 ≡ true
  K_first zero h e = absurd (true≢false e)
  K_first (suc r) h e = K_start (grid n m) on (record { row = r; col = 0 }) ((omega arith, omega arith), not_from_false (on (record { row = r; col = 0 })) e) refl

  K_last : ((r : ℕ) → r < suc n → K (grid n m) on (record { row = r; col = m }) ≡ false) → (r : ℕ) → r ≤ suc n → below false (K (grid n m) on) r m ≡ false
  K_last none zero h = refl
  K_last none (suc r) h = none r h

  -- one of the two reaches its far side
  far_side : ((c : ℕ) × (c < suc m) × (S (grid n m) on (record { row = n; col = c }) ≡ true)) ⊎ ((r : ℕ) × (r < suc n) × (K (grid n m) on (record { row = r; col = m }) ≡ true))
  far_side = elim (found_or_none (λ c. S (grid n m) on (record { row = n; col = c })) (suc m)) [
    | inl h ↦ inl h
    | inr none ↦ elim (found_or_none (λ r. K (grid n m) on (record { row = r; col = m })) (suc n)) [
      | inl h ↦ inr h
      | inr none' ↦ absurd (not_both_stop (suc n) m (below true on) (below true (S (grid n m) on)) (below false (K (grid n m) on)) S_down S_up S_right S_left K_near (λ c h. refl) (λ c h. none c (omega arith)) K_first (K_last none'))
    ]
  ]

  one_stands : JoinedBy (grid n m) on ⊎ CutBy (grid n m) on
  one_stands = elim far_side [
    | inl h ↦ let w = S_walk (grid n m) on (record { row = n; col = h.0 }) h.2 in
        inl (path_from (grid n m) on AreFourNeighbours (λ p. p.row ≡ 0) (λ p. p.row + 1 ≡ suc n) w.2 w.1 (omega arith))
    | inr h ↦ let w = K_walk (grid n m) on (record { row = h.0; col = m }) h.2 in
        inr (path_from (grid n m) (λ c. not (on c)) AreEightNeighbours (λ p. p.col ≡ 0) (λ p. p.col + 1 ≡ suc m) w.2 w.1 (omega arith))
  ]

pub at_least_one : IsJoinedOrCut
at_least_one s on some_row some_col =
    let same : grid (s.rows - 1) (s.cols - 1) ≡ s = shape_eq (grid (s.rows - 1) (s.cols - 1)) s (omega arith) (omega arith) in
    subst (λ z. JoinedBy z on ⊎ CutBy z on) same (one_stands (s.rows - 1) (s.cols - 1) on)

-- each holds exactly where the other fails
pub either_or : IsEitherOr
either_or s on some_row some_col =
    let one = at_least_one s on some_row some_col in (
      (λ j k. never_both s on j k, λ none. ⊎_elim (λ j. j) (λ k. absurd (none k)) one),
      (λ k j. never_both s on j k, λ none. ⊎_elim (λ j. absurd (none j)) (λ k. k) one),
    )
