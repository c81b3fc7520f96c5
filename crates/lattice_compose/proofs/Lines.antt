-- Walks along a line of cells, and walks that are moved to another place.
use Rattle.std.proofs.Common.{◌≡◌, ℕ, zero, suc, ◌+◌, ◌-◌, ◌<◌, ◌≤◌, refl, ap, subst, inl, inr, arith}
use Rattle.std.proofs.lemmas.Bool.{cases_lt}
use Rattle.lattice_grid.specs.declared.shape.Place.{Place}
use Rattle.lattice_grid.specs.Path.{DifferByOne, AreFourNeighbours, AreEightNeighbours}
use Rattle.lattice_grid.proofs.Tools.{place_eq}
use Rattle.path_meaning.proofs.Tools.{Walk, stop, next, join, last_good}

module _ (Good : Place → Type 0) (Near : Place → Place → Type 0) (line : ℕ → Place)
    (near : (k : ℕ) → Near (line k) (line (k + 1)) × Near (line (k + 1)) (line k)) (low high : ℕ) (good : (k : ℕ) → low ≤ k → k < high → Good (line k)) where
  forth : (n i j : ℕ) → i + n ≡ j → low ≤ i → j < high → Walk Good Near (line i) (line j)
  forth zero i j e l h = let same : i ≡ j = omega arith in subst (λ k. Walk Good Near (line i) (line k)) same (stop (good i l (omega arith)))
  forth (suc n) i j e l h = next (good i l (omega arith)) (near i).0 (forth n (i + 1) j (omega arith) (omega arith) h)

  back : (n i j : ℕ) → i + n ≡ j → low ≤ i → j < high → Walk Good Near (line j) (line i)
  back zero i j e l h = let same : i ≡ j = omega arith in subst (λ k. Walk Good Near (line k) (line i)) same (stop (good i l (omega arith)))
  back (suc n) i j e l h =
      join Good Near (back n (i + 1) j (omega arith) (omega arith) h) (next (good (i + 1) (omega arith) (omega arith)) (near i).1 (stop (good i l (omega arith))))

  -- from any cell of a line to any other
  pub along : (i j : ℕ) → low ≤ i → i < high → low ≤ j → j < high → Walk Good Near (line i) (line j)
  along i j li hi lj hj = elim (cases_lt i j) [
    | inl before ↦ forth (j - i) i j (omega arith) li hj
    | inr after ↦ back (i - j) j i (omega arith) lj hi
  ]

-- two walks and one between them
pub linked : (Good : Place → Type 0) (Near : Place → Place → Type 0) {p q r t u v : Place} → Walk Good Near p q → Near q r → Walk Good Near r t → Near t u → Walk Good Near u v → Walk Good Near p v
linked Good Near first n between m last = join Good Near first (next (last_good Good Near first) n (join Good Near between (next (last_good Good Near between) m last)))

-- a walk over cells of one grid is one over cells of another, where each cell is moved so that neighbours stay neighbours
pub moved : (Good Good' : Place → Type 0) (Near : Place → Place → Type 0) (move : Place → Place) → ((p : Place) → Good p → Good' (move p)) → ((p q : Place) → Near p q → Near (move p) (move q)) → {p q : Place} → Walk Good Near p q → Walk Good' Near (move p) (move q)
moved Good Good' Near move good near (stop {p = p} g) = stop (good p g)
moved Good Good' Near move good near (next {p = p} {q = q} g n w) = next (good p g) (near p q n) (moved Good Good' Near move good near w)

-- ---- cells one below the other and one beside the other
pub four_below : (row col : ℕ) → AreFourNeighbours (record { row = row; col = col }) (record { row = row + 1; col = col }) × AreFourNeighbours (record { row = row + 1; col = col }) (record { row = row; col = col })
four_below row col = (inr (refl, inl refl), inr (refl, inr refl))

pub four_beside : (row col : ℕ) → AreFourNeighbours (record { row = row; col = col }) (record { row = row; col = col + 1 }) × AreFourNeighbours (record { row = row; col = col + 1 }) (record { row = row; col = col })
four_beside row col = (inl (refl, inl refl), inl (refl, inr refl))

-- four-neighbours are eight-neighbours
pub eight_of_four : (p q : Place) → AreFourNeighbours p q → AreEightNeighbours p q
eight_of_four p q near = elim near [
  | inl beside ↦ (let same = beside.0 in elim beside.1 [
    | inl e ↦ (λ (s : p ≡ q). (let f : p.col ≡ q.col = ap (λ z. z.col) s in omega arith), (omega arith, omega arith), (omega arith, omega arith))
    | inr e ↦ (λ (s : p ≡ q). (let f : p.col ≡ q.col = ap (λ z. z.col) s in omega arith), (omega arith, omega arith), (omega arith, omega arith))
  ])
  | inr below ↦ (let same = below.0 in elim below.1 [
    | inl e ↦ (λ (s : p ≡ q). (let f : p.row ≡ q.row = ap (λ z. z.row) s in omega arith), (omega arith, omega arith), (omega arith, omega arith))
    | inr e ↦ (λ (s : p ≡ q). (let f : p.row ≡ q.row = ap (λ z. z.row) s in omega arith), (omega arith, omega arith), (omega arith, omega arith))
  ])
]

-- the place so many rows further down and so many columns further right
abbrev pub shifted : ℕ → ℕ → Place → Place
shifted down right p = record { row = p.row + down; col = p.col + right }

apart_shifted : (a b k : ℕ) → DifferByOne a b → DifferByOne (a + k) (b + k)
apart_shifted a b k h = elim h [ inl e ↦ inl (omega arith) | inr e ↦ inr (omega arith) ]

pub four_shifted : (down right : ℕ) (p q : Place) → AreFourNeighbours p q → AreFourNeighbours (shifted down right p) (shifted down right q)
four_shifted down right p q near = elim near [
  | inl beside ↦ inl (ap (λ n. n + down) beside.0, apart_shifted p.col q.col right beside.1)
  | inr below ↦ inr (ap (λ n. n + right) below.0, apart_shifted p.row q.row down below.1)
]

pub eight_shifted : (down right : ℕ) (p q : Place) → AreEightNeighbours p q → AreEightNeighbours (shifted down right p) (shifted down right q)
eight_shifted down right p q near = (
  λ (same : shifted down right p ≡ shifted down right q).
      (let rows : p.row + down ≡ q.row + down = ap (λ z. z.row) same in
      let cols : p.col + right ≡ q.col + right = ap (λ z. z.col) same in
      near.0 (place_eq p q (omega arith) (omega arith))),
  (let n = near.1 in (omega arith, omega arith)),
  (let n = near.2 in (omega arith, omega arith)),
)
