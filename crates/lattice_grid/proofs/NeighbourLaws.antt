-- Which cells are in the lists of neighbours.
use Rattle.std.proofs.Common.{◌≡◌, ◌≢◌, ℕ, suc, zero, ◌+◌, ◌≤◌, ◌<◌, ◌⊎◌, inl, inr, true, false, cond, ◌&&◌, nat_lt, List, [], ◌∷◌, ◌++◌, get_or, refl, sym, ap, subst, arith}
use Rattle.std.specs.List.{Contains}
use Rattle.std.proofs.lemmas.Bool.{and_parts, ltb-true, lt-ltb, and_from}
use Rattle.std.proofs.lemmas.List.Elements.{Contains-append_left, Contains-append_right, Contains-append_cases}
use Rattle.lattice_grid.specs.declared.shape.Place.{Place}
use Rattle.lattice_grid.specs.Rectangle.{Size}
use Rattle.lattice_grid.specs.Path.{IsWithin, DifferByAtMostOne, AreFourNeighbours, AreEightNeighbours}
use Rattle.lattice_grid.specs.Neighbours.{near_cell, has_near, near_of, four_of, eight_of, HasNeighbours}

pub place_eq : (p q : Place) → p.row ≡ q.row → p.col ≡ q.col → p ≡ q
place_eq p q e f = λ i. record { row = e i; col = f i }

-- q is the cell so many rows below and so many columns right of the one up left of p
pub record IsNear (s : Size) (p : Place) (down right : ℕ) (q : Place) : Type 0 where
  pub within : IsWithin s q
  pub row : q.row + 1 ≡ p.row + down
  pub col : q.col + 1 ≡ p.col + right

pub IsNear-read : (s : Size) (p : Place) (down right : ℕ) → has_near s p down right ≡ true → IsNear s p down right (near_cell p down right)
IsNear-read s p down right has =
    let both = and_parts (nat_lt 0 (p.row + down) && nat_lt (p.row + down) (s.rows + 1)) (nat_lt 0 (p.col + right) && nat_lt (p.col + right) (s.cols + 1)) has in
    let rows = and_parts (nat_lt 0 (p.row + down)) (nat_lt (p.row + down) (s.rows + 1)) both.0 in
    let cols = and_parts (nat_lt 0 (p.col + right)) (nat_lt (p.col + right) (s.cols + 1)) both.1 in
    let r0 = ltb-true 0 (p.row + down) rows.0 in
    let r1 = ltb-true (p.row + down) (s.rows + 1) rows.1 in
    let c0 = ltb-true 0 (p.col + right) cols.0 in
    let c1 = ltb-true (p.col + right) (s.cols + 1) cols.1 in
    record { within = (omega arith, omega arith); row = omega arith; col = omega arith }

pub has_near-from : (s : Size) (p : Place) (down right : ℕ) (q : Place) → IsNear s p down right q → has_near s p down right ≡ true
has_near-from s p down right q h =
    let w = h.within in
    let row = h.row in
    let col = h.col in
    and_from (nat_lt 0 (p.row + down) && nat_lt (p.row + down) (s.rows + 1)) (nat_lt 0 (p.col + right) && nat_lt (p.col + right) (s.cols + 1))
    (and_from (nat_lt 0 (p.row + down)) (nat_lt (p.row + down) (s.rows + 1)) (lt-ltb 0 (p.row + down) (omega arith)) (lt-ltb (p.row + down) (s.rows + 1) (omega arith)))
    (and_from (nat_lt 0 (p.col + right)) (nat_lt (p.col + right) (s.cols + 1)) (lt-ltb 0 (p.col + right) (omega arith)) (lt-ltb (p.col + right) (s.cols + 1) (omega arith)))

pub near_cell-is : (s : Size) (p : Place) (down right : ℕ) (q : Place) → IsNear s p down right q → near_cell p down right ≡ q
near_cell-is s p down right q h = let row = h.row in let col = h.col in place_eq (near_cell p down right) q (omega arith) (omega arith)

in_one : (x q : Place) → Contains (x ∷ []) q → x ≡ q
in_one x q h = go h.0 h.1 h.2 where
  go : (k : ℕ) → k < 1 → get_or (x ∷ []) k q ≡ q → x ≡ q
  go zero w e = e
  go (suc k) w e = absurd (omega arith)

pub IsNear-contained : (s : Size) (p : Place) (down right : ℕ) (q : Place) → Contains (near_of s p down right) q → IsNear s p down right q
IsNear-contained s p down right q h =
    elim (has_near s p down right) as (λ b. has_near s p down right ≡ b → Contains (cond b (near_cell p down right ∷ []) []) q → IsNear s p down right q) [
      | true ↦ λ has k. subst (λ c. IsNear s p down right c) (in_one (near_cell p down right) q k) (IsNear-read s p down right has)
      | false ↦ λ _ k. let none = k.1 in absurd (omega arith)
    ] refl h

pub Contains-near : (s : Size) (p : Place) (down right : ℕ) (q : Place) → IsNear s p down right q → Contains (near_of s p down right) q
Contains-near s p down right q h =
    subst (λ b. Contains (cond b (near_cell p down right ∷ []) []) q) (sym (has_near-from s p down right q h)) (0, omega arith, near_cell-is s p down right q h)

-- a neighbour is near by one of four ways
four_way : (s : Size) (p q : Place) → IsWithin s q → AreFourNeighbours p q → Contains (four_of s p) q
four_way s p q within near = elim near [
  | inl beside ↦ let same = beside.0 in elim beside.1 [
    | inl right ↦ Contains-append_left (near_of s p 0 1 ++ near_of s p 1 0 ++ near_of s p 1 2) (near_of s p 2 1) q
        (Contains-append_right (near_of s p 0 1 ++ near_of s p 1 0) (near_of s p 1 2) q (Contains-near s p 1 2 q (record { within = within; row = omega arith; col = omega arith })))
    | inr left ↦ Contains-append_left (near_of s p 0 1 ++ near_of s p 1 0 ++ near_of s p 1 2) (near_of s p 2 1) q
        (Contains-append_left (near_of s p 0 1 ++ near_of s p 1 0) (near_of s p 1 2) q
        (Contains-append_right (near_of s p 0 1) (near_of s p 1 0) q (Contains-near s p 1 0 q (record { within = within; row = omega arith; col = omega arith }))))
  ]
  | inr above ↦ let same = above.0 in elim above.1 [
    | inl down ↦ Contains-append_right (near_of s p 0 1 ++ near_of s p 1 0 ++ near_of s p 1 2) (near_of s p 2 1) q (Contains-near s p 2 1 q (record { within = within; row = omega arith; col = omega arith }))
    | inr up ↦ Contains-append_left (near_of s p 0 1 ++ near_of s p 1 0 ++ near_of s p 1 2) (near_of s p 2 1) q
        (Contains-append_left (near_of s p 0 1 ++ near_of s p 1 0) (near_of s p 1 2) q
        (Contains-append_left (near_of s p 0 1) (near_of s p 1 0) q (Contains-near s p 0 1 q (record { within = within; row = omega arith; col = omega arith }))))
  ]
]

four_back : (s : Size) (p q : Place) → Contains (four_of s p) q → IsWithin s q × AreFourNeighbours p q
four_back s p q h = elim (Contains-append_cases (near_of s p 0 1 ++ near_of s p 1 0 ++ near_of s p 1 2) (near_of s p 2 1) q h) [
  | inl k ↦ elim (Contains-append_cases (near_of s p 0 1 ++ near_of s p 1 0) (near_of s p 1 2) q k) [
    | inl l ↦ elim (Contains-append_cases (near_of s p 0 1) (near_of s p 1 0) q l) [
      | inl m ↦ let n = IsNear-contained s p 0 1 q m in let row = n.row in let col = n.col in (n.within, inr (omega arith, inr (omega arith)))
      | inr m ↦ let n = IsNear-contained s p 1 0 q m in let row = n.row in let col = n.col in (n.within, inl (omega arith, inr (omega arith)))
    ]
    | inr l ↦ let n = IsNear-contained s p 1 2 q l in let row = n.row in let col = n.col in (n.within, inl (omega arith, inl (omega arith)))
  ]
  | inr k ↦ let n = IsNear-contained s p 2 1 q k in let row = n.row in let col = n.col in (n.within, inr (omega arith, inl (omega arith)))
]

pub four_neighbours : (s : Size) (p : Place) → HasNeighbours AreFourNeighbours s p (four_of s p)
four_neighbours s p q = (four_back s p q, λ h. four_way s p q h.0 h.1)

-- by how much a number may be above its neighbour
three_ways : (a b : ℕ) → DifferByAtMostOne a b → (b + 1 ≡ a + 0) ⊎ ((b + 1 ≡ a + 1) ⊎ (b + 1 ≡ a + 2))
three_ways a b h = grind arith

-- the first so many lists of neighbours
abbrev to_up : Size → Place → List Place
to_up s p = near_of s p 0 0 ++ near_of s p 0 1

abbrev to_up_right : Size → Place → List Place
to_up_right s p = to_up s p ++ near_of s p 0 2

abbrev to_left : Size → Place → List Place
to_left s p = to_up_right s p ++ near_of s p 1 0

abbrev to_right : Size → Place → List Place
to_right s p = to_left s p ++ near_of s p 1 2

abbrev to_down_left : Size → Place → List Place
to_down_left s p = to_right s p ++ near_of s p 2 0

abbrev to_down : Size → Place → List Place
to_down s p = to_down_left s p ++ near_of s p 2 1

module _ (s : Size) (p q : Place) where
  past_down : Contains (to_down s p) q → Contains (eight_of s p) q
  past_down h = Contains-append_left (to_down s p) (near_of s p 2 2) q h

  past_down_left : Contains (to_down_left s p) q → Contains (eight_of s p) q
  past_down_left h = past_down (Contains-append_left (to_down_left s p) (near_of s p 2 1) q h)

  past_right : Contains (to_right s p) q → Contains (eight_of s p) q
  past_right h = past_down_left (Contains-append_left (to_right s p) (near_of s p 2 0) q h)

  past_left : Contains (to_left s p) q → Contains (eight_of s p) q
  past_left h = past_right (Contains-append_left (to_left s p) (near_of s p 1 2) q h)

  past_up_right : Contains (to_up_right s p) q → Contains (eight_of s p) q
  past_up_right h = past_left (Contains-append_left (to_up_right s p) (near_of s p 1 0) q h)

  past_up : Contains (to_up s p) q → Contains (eight_of s p) q
  past_up h = past_up_right (Contains-append_left (to_up s p) (near_of s p 0 2) q h)

  above_way : IsWithin s q → q.row + 1 ≡ p.row + 0 → DifferByAtMostOne p.col q.col → Contains (eight_of s p) q
  above_way within row cols = elim (three_ways p.col q.col cols) [
    | inl e ↦ past_up (Contains-append_left (near_of s p 0 0) (near_of s p 0 1) q (Contains-near s p 0 0 q (record { within = within; row = row; col = e })))
    | inr other ↦ elim other [
      | inl e ↦ past_up (Contains-append_right (near_of s p 0 0) (near_of s p 0 1) q (Contains-near s p 0 1 q (record { within = within; row = row; col = e })))
      | inr e ↦ past_up_right (Contains-append_right (to_up s p) (near_of s p 0 2) q (Contains-near s p 0 2 q (record { within = within; row = row; col = e })))
    ]
  ]

  beside_way : IsWithin s q → (p ≢ q) → q.row + 1 ≡ p.row + 1 → DifferByAtMostOne p.col q.col → Contains (eight_of s p) q
  beside_way within differ row cols = elim (three_ways p.col q.col cols) [
    | inl e ↦ past_left (Contains-append_right (to_up_right s p) (near_of s p 1 0) q (Contains-near s p 1 0 q (record { within = within; row = row; col = e })))
    | inr other ↦ elim other [
      | inl e ↦ absurd (differ (place_eq p q (omega arith) (omega arith)))
      | inr e ↦ past_right (Contains-append_right (to_left s p) (near_of s p 1 2) q (Contains-near s p 1 2 q (record { within = within; row = row; col = e })))
    ]
  ]

  below_way : IsWithin s q → q.row + 1 ≡ p.row + 2 → DifferByAtMostOne p.col q.col → Contains (eight_of s p) q
  below_way within row cols = elim (three_ways p.col q.col cols) [
    | inl e ↦ past_down_left (Contains-append_right (to_right s p) (near_of s p 2 0) q (Contains-near s p 2 0 q (record { within = within; row = row; col = e })))
    | inr other ↦ elim other [
      | inl e ↦ past_down (Contains-append_right (to_down_left s p) (near_of s p 2 1) q (Contains-near s p 2 1 q (record { within = within; row = row; col = e })))
      | inr e ↦ Contains-append_right (to_down s p) (near_of s p 2 2) q (Contains-near s p 2 2 q (record { within = within; row = row; col = e }))
    ]
  ]

  eight_way : IsWithin s q → AreEightNeighbours p q → Contains (eight_of s p) q
  eight_way within near = elim (three_ways p.row q.row near.1) [
    | inl e ↦ above_way within e near.2
    | inr other ↦ elim other [
      | inl e ↦ beside_way within near.0 e near.2
      | inr e ↦ below_way within e near.2
    ]
  ]

  -- what is near, and not p itself, is a neighbour
  near_neighbour : (down right : ℕ) → down ≤ 2 → right ≤ 2 → (down ≡ 1 → right ≡ 1 → ⊥) → IsNear s p down right q → IsWithin s q × AreEightNeighbours p q
  near_neighbour down right few few' other h =
      let row = h.row in
      let col = h.col in
      (h.within, (λ e. let same_row = ap (λ c. c.row) e in let same_col = ap (λ c. c.col) e in other (omega arith) (omega arith), (omega arith, omega arith), (omega arith, omega arith)))

  eight_back : Contains (eight_of s p) q → IsWithin s q × AreEightNeighbours p q
  eight_back h = elim (Contains-append_cases (to_down s p) (near_of s p 2 2) q h) [
    | inr k ↦ near_neighbour 2 2 (omega arith) (omega arith) (λ e f. absurd (omega arith)) (IsNear-contained s p 2 2 q k)
    | inl h ↦ elim (Contains-append_cases (to_down_left s p) (near_of s p 2 1) q h) [
      | inr k ↦ near_neighbour 2 1 (omega arith) (omega arith) (λ e f. absurd (omega arith)) (IsNear-contained s p 2 1 q k)
      | inl h ↦ elim (Contains-append_cases (to_right s p) (near_of s p 2 0) q h) [
        | inr k ↦ near_neighbour 2 0 (omega arith) (omega arith) (λ e f. absurd (omega arith)) (IsNear-contained s p 2 0 q k)
        | inl h ↦ elim (Contains-append_cases (to_left s p) (near_of s p 1 2) q h) [
          | inr k ↦ near_neighbour 1 2 (omega arith) (omega arith) (λ e f. absurd (omega arith)) (IsNear-contained s p 1 2 q k)
          | inl h ↦ elim (Contains-append_cases (to_up_right s p) (near_of s p 1 0) q h) [
            | inr k ↦ near_neighbour 1 0 (omega arith) (omega arith) (λ e f. absurd (omega arith)) (IsNear-contained s p 1 0 q k)
            | inl h ↦ elim (Contains-append_cases (to_up s p) (near_of s p 0 2) q h) [
              | inr k ↦ near_neighbour 0 2 (omega arith) (omega arith) (λ e f. absurd (omega arith)) (IsNear-contained s p 0 2 q k)
              | inl h ↦ elim (Contains-append_cases (near_of s p 0 0) (near_of s p 0 1) q h) [
                | inr k ↦ near_neighbour 0 1 (omega arith) (omega arith) (λ e f. absurd (omega arith)) (IsNear-contained s p 0 1 q k)
                | inl k ↦ near_neighbour 0 0 (omega arith) (omega arith) (λ e f. absurd (omega arith)) (IsNear-contained s p 0 0 q k)
              ]
            ]
          ]
        ]
      ]
    ]
  ]

pub eight_neighbours : (s : Size) (p : Place) → HasNeighbours AreEightNeighbours s p (eight_of s p)
eight_neighbours s p q = (eight_back s p q, λ h. eight_way s p q h.0 h.1)

-- the same, of a list that is this one
pub four_neighbours_read : (s : Size) (p : Place) (places : List Place) → places ≡ four_of s p → HasNeighbours AreFourNeighbours s p places
four_neighbours_read s p places e = subst (HasNeighbours AreFourNeighbours s p) (sym e) (four_neighbours s p)

pub eight_neighbours_read : (s : Size) (p : Place) (places : List Place) → places ≡ eight_of s p → HasNeighbours AreEightNeighbours s p places
eight_neighbours_read s p places e = subst (HasNeighbours AreEightNeighbours s p) (sym e) (eight_neighbours s p)
