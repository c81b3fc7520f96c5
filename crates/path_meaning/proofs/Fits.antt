-- To repeat the last row or the last column changes nothing.
use Rattle.std.proofs.Common.{◌≡◌, ℕ, zero, suc, ◌+◌, ◌-◌, ◌<◌, ◌≤◌, min, Bool, refl, sym, ap, ◌∙◌, subst, inl, inr, arith}
use Rattle.std.specs.Prelude.{◌⊎◌}
use Rattle.lattice_grid.specs.declared.shape.Place.{Place}
use Rattle.lattice_grid.specs.Rectangle.{Size}
use Rattle.lattice_grid.specs.Path.{IsWithin, DifferByOne, AreFourNeighbours, JoinedBy}
use Rattle.path_meaning.specs.Closed.{IsOn}
use Rattle.lattice_grid.specs.Repeated.{nearest}
use Rattle.path_meaning.specs.Fitting.{Repeats, IsFitting}
use Rattle.path_meaning.proofs.Walks.{Walk, stop, next, join, last_good, walk_from, path_from}
use Rattle.path_meaning.proofs.Decisions.{place_eq}

apart_kept : (a b n : ℕ) → DifferByOne a b → DifferByOne (min a n) (min b n) ⊎ (min a n ≡ min b n)
apart_kept a b n h = grind arith

-- a walk of one grid gives a walk of another, where f keeps steps or stays
walk_map : (Good Good' : Place → Type 0) (Near : Place → Place → Type 0) (f : Place → Place) → ((p : Place) → Good p → Good' (f p)) → ((p q : Place) → Near p q → Near (f p) (f q) ⊎ (f p ≡ f q)) → {p q : Place} → Walk Good Near p q → Walk Good' Near (f p) (f q)
walk_map Good Good' Near f good near (stop {p = p} g) = stop (good p g)
walk_map Good Good' Near f good near (next {p = p} {q = q} {r = r} g n w) =
    let rest = walk_map Good Good' Near f good near w in
    elim (near p q n) [ inl k ↦ next (good p g) k rest | inr e ↦ subst (λ c. Walk Good' Near c (f r)) (sym e) rest ]

module _ (small large : Size) (on on' : Place → Bool) (h : Repeats small large on on') where
  near_kept : (p q : Place) → AreFourNeighbours p q → AreFourNeighbours (nearest small p) (nearest small q) ⊎ (nearest small p ≡ nearest small q)
  near_kept p q n = elim n [
    | inl k ↦ elim (apart_kept p.col q.col (small.cols - 1) k.1) [
      | inl a ↦ inl (inl (ap (λ c. min c (small.rows - 1)) k.0, a))
      | inr e ↦ inr (place_eq (nearest small p) (nearest small q) (ap (λ c. min c (small.rows - 1)) k.0) e)
    ]
    | inr k ↦ elim (apart_kept p.row q.row (small.rows - 1) k.1) [
      | inl a ↦ inl (inr (ap (λ c. min c (small.cols - 1)) k.0, a))
      | inr e ↦ inr (place_eq (nearest small p) (nearest small q) e (ap (λ c. min c (small.cols - 1)) k.0))
    ]
  ]

  smaller : (p : Place) → IsOn large on' p → IsOn small on (nearest small p)
  smaller p g = ((omega (arith, h.some_row), omega (arith, h.some_col)), sym (h.same p g.0) ∙ g.1)

  same_within : (p : Place) → IsWithin small p → nearest small p ≡ p
  same_within p g = place_eq (nearest small p) p (omega (arith, g.0)) (omega (arith, g.1))

  larger : (p : Place) → IsOn small on p → IsOn large on' p
  larger p g =
      let within : IsWithin large p = (omega (arith, g.0.0, h.fits.rows), omega (arith, g.0.1, h.fits.cols)) in
      (within, h.same p within ∙ ap on (same_within p g.0) ∙ g.1)

  -- below a cell of the last row its column is on
  on_below : (p : Place) → IsOn small on p → p.row + 1 ≡ small.rows → (r : ℕ) → p.row ≤ r → r < large.rows → IsOn large on' (record { row = r; col = p.col })
  on_below p g low r up room =
      let below : Place = record { row = r; col = p.col } in
      let within : IsWithin large below = (room, omega (arith, g.0.1, h.fits.cols)) in
      (within, h.same below within ∙ ap on (place_eq (nearest small below) p (omega arith) (omega (arith, g.0.1))) ∙ g.1)

  -- a walk down that column
  walk_down : (p : Place) → IsOn small on p → p.row + 1 ≡ small.rows → (k : ℕ) → p.row + k < large.rows → Walk (IsOn large on') AreFourNeighbours p (record { row = p.row + k; col = p.col })
  walk_down p g low zero room = subst (λ c. Walk (IsOn large on') AreFourNeighbours p c) (place_eq p (record { row = p.row + 0; col = p.col }) (omega arith) refl) (stop (larger p g))
  walk_down p g low (suc k) room =
      join (IsOn large on') AreFourNeighbours (walk_down p g low k (omega arith))
      (next (on_below p g low (p.row + k) (omega arith) (omega arith)) (inr (refl, inl (omega arith))) (stop (on_below p g low (p.row + suc k) (omega arith) room)))

  to_small : JoinedBy large on' → JoinedBy small on
  to_small joined =
      let w = walk_from large on' AreFourNeighbours (λ p. p.row ≡ 0) (λ p. p.row + 1 ≡ large.rows) joined.0 joined.1 in
      path_from small on AreFourNeighbours (λ p. p.row ≡ 0) (λ p. p.row + 1 ≡ small.rows)
      (walk_map (IsOn large on') (IsOn small on) AreFourNeighbours (nearest small) smaller near_kept w.4)
      (omega (arith, w.2)) (omega (arith, w.3, h.some_row, h.fits.rows))

  to_large : JoinedBy small on → JoinedBy large on'
  to_large joined =
      let w = walk_from small on AreFourNeighbours (λ p. p.row ≡ 0) (λ p. p.row + 1 ≡ small.rows) joined.0 joined.1 in
      let good = last_good (IsOn small on) AreFourNeighbours w.4 in
      let v = walk_map (IsOn small on) (IsOn large on') AreFourNeighbours (λ p. p) larger (λ p q n. inl n) w.4 in
      let down = walk_down w.1 good w.3 (large.rows - small.rows) (omega (arith, w.3, h.fits.rows, h.some_row)) in
      path_from large on' AreFourNeighbours (λ p. p.row ≡ 0) (λ p. p.row + 1 ≡ large.rows)
      (join (IsOn large on') AreFourNeighbours v down) w.2 (omega (arith, w.3, h.fits.rows))

pub fitting : IsFitting
fitting small large on on' h = (to_small small large on on' h, to_large small large on on' h)
