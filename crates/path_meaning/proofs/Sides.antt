-- The on cells that the top row leads to, and the off cells that the left column leads to.
use Rattle.std.proofs.Common.{◌≡◌, Bool, true, false, not, subst, inl, inr}
use Rattle.std.proofs.lemmas.Bool.{both_ways, false_from_ne_true, not_from_false}
use Rattle.lattice_grid.specs.declared.shape.Place.{Place}
use Rattle.lattice_grid.specs.Rectangle.{Size}
use Rattle.lattice_grid.specs.Path.{IsWithin, DifferByAtMostOne, AreFourNeighbours, AreEightNeighbours}
use Rattle.path_meaning.specs.Closed.{IsOn, IsOff}
use Rattle.path_meaning.proofs.Walks.{Walk, last_good}
use Rattle.path_meaning.proofs.Decisions.{and_test, eq_test, four_test, eight_test, good_test, place_cases}
use Rattle.path_meaning.proofs.Closed.{reached, reached_walk, reached_start, reached_step}

module _ (s : Size) (on : Place → Bool) where
  -- the on cells that the top row leads to
  pub S : Place → Bool
  S = reached s (IsOn s on) AreFourNeighbours (λ p. p.row ≡ 0)
      (λ p. and_test (good_test s on p) (eq_test p.row 0))
      (λ p q. and_test (good_test s on p) (and_test (four_test p q) (good_test s on q)))

  -- the off cells that the left column leads to
  pub K : Place → Bool
  K = reached s (IsOff s on) AreEightNeighbours (λ p. p.col ≡ 0)
      (λ p. and_test (good_test s (λ c. not (on c)) p) (eq_test p.col 0))
      (λ p q. and_test (good_test s (λ c. not (on c)) p) (and_test (eight_test p q) (good_test s (λ c. not (on c)) q)))

  pub S_walk : (p : Place) → S p ≡ true → (o : Place) × (o.row ≡ 0) × Walk (IsOn s on) AreFourNeighbours o p
  unfolding S
  S_walk p h = reached_walk s (IsOn s on) AreFourNeighbours (λ p. p.row ≡ 0) _ _ p h

  pub K_walk : (p : Place) → K p ≡ true → (o : Place) × (o.col ≡ 0) × Walk (IsOff s on) AreEightNeighbours o p
  unfolding K
  K_walk p h = reached_walk s (IsOff s on) AreEightNeighbours (λ p. p.col ≡ 0) _ _ p h

  pub S_good : (p : Place) → S p ≡ true → IsOn s on p
  S_good p h = last_good (IsOn s on) AreFourNeighbours (S_walk p h).2

  pub K_good : (p : Place) → K p ≡ true → IsOff s on p
  K_good p h = last_good (IsOff s on) AreEightNeighbours (K_walk p h).2

  pub S_start : (p : Place) → IsOn s on p → p.row ≡ 0 → S p ≡ true
  unfolding S
  S_start p g h = reached_start s (IsOn s on) AreFourNeighbours (λ p. p.row ≡ 0) _ _ p g h

  pub K_start : (p : Place) → IsOff s on p → p.col ≡ 0 → K p ≡ true
  unfolding K
  K_start p g h = reached_start s (IsOff s on) AreEightNeighbours (λ p. p.col ≡ 0) _ _ p g h

  pub S_on : (p q : Place) → AreFourNeighbours p q → S p ≡ true → IsOn s on q → S q ≡ true
  unfolding S
  S_on p q near h g = let good = S_good p h in reached_step s (IsOn s on) AreFourNeighbours (λ p. p.row ≡ 0) _ _ p q good.0 good near g h

  pub K_on : (p q : Place) → AreEightNeighbours p q → K p ≡ true → IsOff s on q → K q ≡ true
  unfolding K
  K_on p q near h g = let good = K_good p h in reached_step s (IsOff s on) AreEightNeighbours (λ p. p.col ≡ 0) _ _ p q good.0 good near g h

  -- beside a reached on cell, a cell that isn't reached is off
  pub S_step : (p q : Place) → IsWithin s q → AreFourNeighbours p q → S p ≡ true → S q ≡ false → on q ≡ false
  S_step p q within near h stops = false_from_ne_true (on q) (λ e. both_ways (S q) stops (S_on p q near h (within, e)))

  -- near a reached off cell, an off cell is reached
  pub K_step : (p q : Place) → IsWithin s q → DifferByAtMostOne p.row q.row → DifferByAtMostOne p.col q.col → K p ≡ true → on q ≡ false → K q ≡ true
  K_step p q within near near' h e = elim (place_cases p q) [
    | inl same ↦ subst (λ c. K c ≡ true) same h
    | inr other ↦ K_on p q (other, near, near') h (within, not_from_false (on q) e)
  ]
