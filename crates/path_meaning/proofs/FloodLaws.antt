-- A visit keeps a flood, and the flood ends with a path or with a closed set.
use Rattle.std.proofs.Common.{◌≡◌, ◌≢◌, ℕ, ◌+◌, ◌*◌, ◌≤◌, ◌<◌, ◌⊎◌, inl, inr, Bool, true, false, cond, not, nat_eq, length, get_or, refl, sym, ap, ◌∙◌, subst, arith, get_or-set_same, get_or-set_other}
use Rattle.std.specs.Prelude.{◌↔◌, IsTrue, IsFalse}
use Rattle.std.specs.List.{count_by}
use Rattle.std.proofs.Math.ListN.{set}
use Rattle.std.proofs.lemmas.Bool.{true≢false, both_ways, false_from_ne_true, cases_Bool, cases_eq, eqb-true}
use Rattle.std.proofs.lemmas.List.Sums.{count_by-le-length}
use Rattle.lattice_grid.specs.declared.shape.Place.{Place}
use Rattle.lattice_grid.specs.Rectangle.{Size}
use Rattle.lattice_grid.specs.Path.{IsWithin, AreFourNeighbours, JoinedBy, CutBy}
use Rattle.lattice_grid.specs.Neighbours.{near_cell, has_near}
use Rattle.lattice_grid.proofs.Tools.{IsNear, IsNear-read, has_near-from, near_cell-is}
use Rattle.path_meaning.specs.Closed.{IsOn}
use Rattle.path_meaning.specs.Stamps.{Stamps, pushed, index_of, is_marked, visited, visited_near, spread, left_of, Pops}
use Rattle.path_meaning.specs.Flood.{IsReached, IsDone, IsFlood, NoCell, TopIsMarked, IsFresh}
use Rattle.path_meaning.proofs.Decisions.{place_cases, place_eq}
use Rattle.path_meaning.proofs.Walks.{Walk, stop, next, walk_from, path_from}
use Rattle.path_meaning.proofs.Refuted.{joined_refuted}
use Rattle.path_meaning.proofs.Least.{either_or}
use Rattle.path_meaning.proofs.StampLaws.{index_within, HasRoom-pushed, room_to_wait, visited-push, visited-marked, visited-off, marked-pushed_same, marked-pushed_other}

-- cells that are reached
module _ (s : Size) (on : Place → Bool) where
  pub IsReached-start : (p : Place) → IsOn s on p → p.row ≡ 0 → IsReached s on p
  IsReached-start p here top = path_from s on AreFourNeighbours (λ q. q.row ≡ 0) (λ q. q ≡ p) (stop here) top refl

  pub IsReached-step : (p q : Place) → IsReached s on p → AreFourNeighbours p q → IsOn s on q → IsReached s on q
  IsReached-step p q h near here =
      let w = walk_from s on AreFourNeighbours (λ r. r.row ≡ 0) (λ r. r ≡ p) h.0 h.1 in
      let v : Walk (IsOn s on) AreFourNeighbours w.0 p = subst (λ r. Walk (IsOn s on) AreFourNeighbours w.0 r) w.3 w.4 in
      path_from s on AreFourNeighbours (λ r. r.row ≡ 0) (λ r. r ≡ q) (ended v near here) w.2 refl
    where
      ended : {a b c : Place} → Walk (IsOn s on) AreFourNeighbours a b → AreFourNeighbours b c → IsOn s on c → Walk (IsOn s on) AreFourNeighbours a c
      ended (stop g) n k = next g n (stop k)
      ended (next g m w) n k = next g m (ended w n k)

  pub joined_from_reached : (p : Place) → IsReached s on p → p.row + 1 ≡ s.rows → JoinedBy s on
  joined_from_reached p h low =
      let w = walk_from s on AreFourNeighbours (λ r. r.row ≡ 0) (λ r. r ≡ p) h.0 h.1 in
      path_from s on AreFourNeighbours (λ r. r.row ≡ 0) (λ r. r.row + 1 ≡ s.rows) w.4 w.2 (ap (λ r. r.row + 1) w.3 ∙ low)

-- more cells are marked
abbrev pub Grows : Size → Stamps → Stamps → Type 0
Grows s old new = (q : Place) → IsWithin s q → IsTrue (is_marked s old q) → IsTrue (is_marked s new q)

done_grows : (s : Size) (on : Place → Bool) (old new : Stamps) → Grows s old new → (p : Place) → IsDone s on old p → IsDone s on new p
done_grows s on old new grows p h = record { above = h.above; marked = λ q near here. grows q here.0 (h.marked q near here) }

-- a cell that is reached is marked, and waits
module _ (s : Size) (on : Place → Bool) (Open : Place → Type 0) (m : Stamps) (h : IsFlood s on Open m) (p : Place) (within : IsWithin s p) (unmarked : is_marked s m p ≡ false) where
  abbrev after : Stamps
  after = pushed (index_of s p) p m

  below : index_of s p < length m.stamps
  below = omega (arith, index_within s p within, h.room.cells)

  pub pushed_grows : Grows s m after
  pushed_grows q inside k = elim (place_cases q p) [
    | inl same ↦ subst (λ r. IsTrue (is_marked s after r)) (sym same) (marked-pushed_same s p m h.room within)
    | inr other ↦ marked-pushed_other s p m h.room within q inside other ∙ k
  ]

  stack_same : (d : Place) → get_or (set m.stack m.waiting p) m.waiting d ≡ p
  stack_same d = get_or-set_same m.stack m.waiting p d (room_to_wait s (index_of s p) m h.room below unmarked)

  stack_other : (k : ℕ) (d : Place) → k < m.waiting → get_or (set m.stack m.waiting p) k d ≡ get_or m.stack k d
  stack_other k d less = get_or-set_other m.stack m.waiting k p d (omega arith)

  listed : (k : ℕ) (d : Place) → k < m.waiting + 1 → IsWithin s (get_or (set m.stack m.waiting p) k d) × IsTrue (is_marked s after (get_or (set m.stack m.waiting p) k d))
  listed k d less = elim (cases_eq k m.waiting) [
    | inl e ↦ subst (λ r. IsWithin s r × IsTrue (is_marked s after r)) (sym (ap (λ j. get_or (set m.stack m.waiting p) j d) e ∙ stack_same d)) (within, marked-pushed_same s p m h.room within)
    | inr ne ↦
        let before : k < m.waiting = omega arith in
        let old = h.listed k d before in
        subst (λ r. IsWithin s r × IsTrue (is_marked s after r)) (sym (stack_other k d before)) (old.0, pushed_grows (get_or m.stack k d) old.0 old.1)
  ]

  settled : (q : Place) → IsWithin s q → IsTrue (is_marked s after q) → (IsDone s on after q ⊎ ((k : ℕ) × (k < m.waiting + 1) × (get_or (set m.stack m.waiting p) k q ≡ q))) ⊎ Open q
  settled q inside k = elim (place_cases q p) [
    | inl same ↦ inl (inr (m.waiting, omega arith, stack_same q ∙ sym same))
    | inr other ↦ elim (h.settled q inside (sym (marked-pushed_other s p m h.room within q inside other) ∙ k)) [
      | inl (inl done) ↦ inl (inl (done_grows s on m after pushed_grows q done))
      | inl (inr wait) ↦ inl (inr (wait.0, omega (arith, wait.1), stack_other wait.0 q wait.1 ∙ wait.2))
      | inr looked ↦ inr looked
    ]
  ]

  pub pushed_flood : IsReached s on p → IsFlood s on Open after
  unfolding pushed
  pushed_flood reach = record {
    room = HasRoom-pushed s (index_of s p) p m h.room below unmarked;
    listed = listed;
    reached = λ q inside k. elim (place_cases q p) [
      | inl same ↦ subst (IsReached s on) (sym same) reach
      | inr other ↦ h.reached q inside (sym (marked-pushed_other s p m h.room within q inside other) ∙ k)
    ];
    settled = settled;
  }

-- a visit of a cell that is reached where it is on
pub record IsKept (s : Size) (on : Place → Bool) (Open : Place → Type 0) (old : Stamps) (p : Place) (new : Stamps) : Type 0 where
  pub flood : IsFlood s on Open new
  pub grows : Grows s old new
  pub marked : IsTrue (on p) → IsTrue (is_marked s new p)

pub visited_kept : (s : Size) (on : Place → Bool) (Open : Place → Type 0) (m : Stamps) → IsFlood s on Open m → (p : Place) → IsWithin s p → (IsTrue (on p) → IsReached s on p) → IsKept s on Open m p (visited s on p m)
visited_kept s on Open m h p within reach = elim (cases_Bool (is_marked s m p)) [
  | inl marked ↦ subst (IsKept s on Open m p) (sym (visited-marked s on p m marked)) (record { flood = h; grows = λ q inside k. k; marked = λ _. marked })
  | inr unmarked ↦ elim (cases_Bool (on p)) [
    | inl here ↦ subst (IsKept s on Open m p) (sym (visited-push s on p m unmarked here)) (record {
      flood = pushed_flood s on Open m h p within unmarked (reach here);
      grows = pushed_grows s on Open m h p within unmarked;
      marked = λ _. marked-pushed_same s p m h.room within;
    })
    | inr off ↦ subst (IsKept s on Open m p) (sym (visited-off s on p m off)) (record { flood = h; grows = λ q inside k. k; marked = λ here. absurd (true≢false (sym here ∙ off)) })
  ]
]

-- the way leads to neighbours alone
abbrev IsWay : Size → Place → ℕ → ℕ → Type 0
IsWay s p down right = (q : Place) → IsNear s p down right q → AreFourNeighbours p q

record IsKeptNear (s : Size) (on : Place → Bool) (p : Place) (down right : ℕ) (old new : Stamps) : Type 0 where
  flood : IsFlood s on (λ r. r ≡ p) new
  grows : Grows s old new
  marked : (q : Place) → IsNear s p down right q → IsTrue (on q) → IsTrue (is_marked s new q)

near_kept : (s : Size) (on : Place → Bool) (p : Place) (down right : ℕ) (m : Stamps) → IsFlood s on (λ r. r ≡ p) m → IsReached s on p → IsWay s p down right → IsKeptNear s on p down right m (visited_near s on p down right m)
unfolding visited_near
near_kept s on p down right m h reach way = elim (has_near s p down right) as (λ b. has_near s p down right ≡ b → IsKeptNear s on p down right m (cond b (visited s on (near_cell p down right) m) m)) [
  | true ↦ λ has.
      let near = IsNear-read s p down right has in
      let kept = visited_kept s on (λ r. r ≡ p) m h (near_cell p down right) near.within (λ here. IsReached-step s on p (near_cell p down right) reach (way (near_cell p down right) near) (near.within, here)) in
      record {
        flood = kept.flood;
        grows = kept.grows;
        marked = λ q is here. let e = near_cell-is s p down right q is in
            subst (λ r. IsTrue (is_marked s (visited s on (near_cell p down right) m) r)) e (kept.marked (subst (λ r. IsTrue (on r)) (sym e) here));
      }
  | false ↦ λ none. record { flood = h; grows = λ q inside k. k; marked = λ q is here. absurd (true≢false (sym (has_near-from s p down right q is) ∙ none)) }
] refl

up_way : (s : Size) (p : Place) → IsWay s p 0 1
up_way s p q n = let row = n.row in let col = n.col in inr (omega arith, inr (omega arith))

left_way : (s : Size) (p : Place) → IsWay s p 1 0
left_way s p q n = let row = n.row in let col = n.col in inl (omega arith, inr (omega arith))

right_way : (s : Size) (p : Place) → IsWay s p 1 2
right_way s p q n = let row = n.row in let col = n.col in inl (omega arith, inl (omega arith))

down_way : (s : Size) (p : Place) → IsWay s p 2 1
down_way s p q n = let row = n.row in let col = n.col in inr (omega arith, inl (omega arith))

-- The cell that is looked at is done once its neighbours are visited.
pub spread_flood : (s : Size) (on : Place → Bool) (p : Place) (m : Stamps) → IsFlood s on (λ r. r ≡ p) m → IsReached s on p → p.row + 1 ≢ s.rows → IsFlood s on NoCell (spread s on p m)
unfolding spread
spread_flood s on p m h reach above =
    let a = visited_near s on p 0 1 m in
    let b = visited_near s on p 1 0 a in
    let c = visited_near s on p 1 2 b in
    let d = visited_near s on p 2 1 c in
    let up = near_kept s on p 0 1 m h reach (up_way s p) in
    let left = near_kept s on p 1 0 a up.flood reach (left_way s p) in
    let right = near_kept s on p 1 2 b left.flood reach (right_way s p) in
    let down = near_kept s on p 2 1 c right.flood reach (down_way s p) in
    let marked : (q : Place) → AreFourNeighbours p q → IsOn s on q → IsTrue (is_marked s d q) = λ q near here. elim near [
      | inl beside ↦ elim beside.1 [
        | inl e ↦ down.grows q here.0 (right.marked q (record { within = here.0; row = omega (arith, beside.0); col = omega arith }) here.1)
        | inr e ↦ down.grows q here.0 (right.grows q here.0 (left.marked q (record { within = here.0; row = omega (arith, beside.0); col = omega arith }) here.1))
      ]
      | inr beyond ↦ elim beyond.1 [
        | inl e ↦ down.marked q (record { within = here.0; row = omega arith; col = omega (arith, beyond.0) }) here.1
        | inr e ↦ down.grows q here.0 (right.grows q here.0 (left.grows q here.0 (up.marked q (record { within = here.0; row = omega arith; col = omega (arith, beyond.0) }) here.1)))
      ]
    ] in
    record {
      room = down.flood.room;
      listed = down.flood.listed;
      reached = down.flood.reached;
      settled = λ q inside k. elim (down.flood.settled q inside k) [
        | inl other ↦ inl other
        | inr same ↦ inl (inl (subst (IsDone s on d) (sym same) (record { above = above; marked = marked })))
      ];
    }

pub spread_grows : (s : Size) (on : Place → Bool) (p : Place) (m : Stamps) → IsFlood s on (λ r. r ≡ p) m → IsReached s on p → Grows s m (spread s on p m)
unfolding spread
spread_grows s on p m h reach q inside k =
    let a = visited_near s on p 0 1 m in
    let b = visited_near s on p 1 0 a in
    let c = visited_near s on p 1 2 b in
    let up = near_kept s on p 0 1 m h reach (up_way s p) in
    let left = near_kept s on p 1 0 a up.flood reach (left_way s p) in
    let right = near_kept s on p 1 2 b left.flood reach (right_way s p) in
    let down = near_kept s on p 2 1 c right.flood reach (down_way s p) in
    down.grows q inside (right.grows q inside (left.grows q inside (up.grows q inside k)))

-- A new round begins with nothing marked.
pub fresh_flood : (s : Size) (on : Place → Bool) (old new : Stamps) → IsFresh old new → s.rows * s.cols ≤ length old.stamps → IsFlood s on NoCell new
fresh_flood s on old new h many =
    let none : (p : Place) → IsTrue (is_marked s new p) → ⊥ = λ p k. h.unmarked (index_of s p) (eqb-true (get_or new.stamps (index_of s p) 0) new.round k) in
    record {
      room = record {
        cells = omega (arith, h.stamps);
        same = h.same;
        left = omega (arith, h.waiting, count_by-le-length (λ stamp. not (nat_eq stamp new.round)) new.stamps);
      };
      listed = λ k d less. absurd (omega (arith, h.waiting));
      reached = λ p inside k. absurd (none p k);
      settled = λ p inside k. absurd (none p k);
    }

-- The last cell that waits is taken to be looked at.
pub record IsTaken (s : Size) (on : Place → Bool) (p : Place) (old new : Stamps) : Type 0 where
  pub flood : IsFlood s on (λ r. r ≡ p) new
  pub within : IsWithin s p
  pub reached : IsReached s on p
  pub left : left_of new + 1 ≡ left_of old
  pub grows : Grows s old new
  pub stamps : new.stamps ≡ old.stamps

pub pops_flood : (s : Size) (on : Place → Bool) (old : Stamps) (p : Place) (new : Stamps) → IsFlood s on NoCell old → Pops old p new → IsTaken s on p old new
pops_flood s on old p new h pops =
    let marks : (q : Place) → is_marked s new q ≡ is_marked s old q = λ q i. nat_eq (get_or (pops.stamps i) (index_of s q) 0) (pops.round i) in
    let grows : Grows s old new = λ q inside k. marks q ∙ k in
    let many : count_by (λ stamp. not (nat_eq stamp new.round)) new.stamps ≡ count_by (λ stamp. not (nat_eq stamp old.round)) old.stamps = λ i. count_by (λ stamp. not (nat_eq stamp (pops.round i))) (pops.stamps i) in
    let stack : (k : ℕ) (d : Place) → get_or new.stack k d ≡ get_or old.stack k d = λ k d. ap (λ xs. get_or xs k d) pops.stack in
    let top = h.listed new.waiting p (omega (arith, pops.some)) in
    let place : get_or old.stack new.waiting p ≡ p = pops.place p in
    let within : IsWithin s p = subst (IsWithin s) place top.0 in
    let reached : IsReached s on p = h.reached p within (subst (λ q. IsTrue (is_marked s old q)) place top.1) in
    record {
      flood = record {
        room = record {
          cells = omega (arith, h.room.cells, ap length pops.stamps);
          same = omega (arith, h.room.same, ap length pops.stamps, ap length pops.stack);
          left = omega (arith, h.room.left, many, pops.some, ap length pops.stamps);
        };
        listed = λ k d less.
            let was = h.listed k d (omega (arith, pops.some)) in
            subst (λ q. IsWithin s q × IsTrue (is_marked s new q)) (sym (stack k d)) (was.0, grows (get_or old.stack k d) was.0 was.1);
        reached = λ q inside k. h.reached q inside (sym (marks q) ∙ k);
        settled = λ q inside k. elim (h.settled q inside (sym (marks q) ∙ k)) [
          | inl (inl done) ↦ inl (inl (done_grows s on old new grows q done))
          | inl (inr wait) ↦ elim (cases_eq wait.0 new.waiting) [
            | inl e ↦ inr (sym wait.2 ∙ ap (λ j. get_or old.stack j q) e ∙ pops.place q)
            | inr ne ↦ inl (inr (wait.0, omega (arith, wait.1, pops.some), stack wait.0 q ∙ wait.2))
          ]
          | inr none ↦ absurd none
        ];
      };
      within = within;
      reached = reached;
      left = omega (arith, many, pops.some);
      grows = grows;
      stamps = pops.stamps;
    }

-- When none waits, the marked cells are closed and stop above the bottom row.
pub ended_flood : (s : Size) (on : Place → Bool) (m : Stamps) → IsFlood s on NoCell m → TopIsMarked s on s.cols m → m.waiting ≡ 0 → JoinedBy s on → ⊥
ended_flood s on m h top none = (joined_refuted s on).1 (
  is_marked s m,
  record {
    start = λ p here high. top p here high here.0.1;
    step = λ p q inside k near here. (done p inside k).marked q near here;
    stops = λ p inside k low. (done p inside k).above low;
  },
)
  where
    done : (p : Place) → IsWithin s p → IsTrue (is_marked s m p) → IsDone s on m p
    done p inside k = elim (h.settled p inside k) [
      | inl (inl ended) ↦ ended
      | inl (inr wait) ↦ let less = wait.1 in absurd (omega (arith, none))
      | inr looked ↦ absurd looked
    ]

pub TopIsMarked-grows : (s : Size) (on : Place → Bool) (n : ℕ) (old new : Stamps) → Grows s old new → TopIsMarked s on n old → TopIsMarked s on n new
TopIsMarked-grows s on n old new grows top p here high less = grows p here.0 (top p here high less)

-- one more cell of the top row is visited
pub top_more : (s : Size) (on : Place → Bool) (old new : Stamps) (n : ℕ) → IsKept s on NoCell old (record { row = 0; col = n }) new → TopIsMarked s on n old → TopIsMarked s on (n + 1) new
top_more s on old new n kept top p here high less = elim (cases_eq p.col n) [
  | inl e ↦
      let same : record { row = 0; col = n } ≡ p = place_eq (record { row = 0; col = n }) p (sym high) (sym e) in
      subst (λ q. IsTrue (is_marked s new q)) same (kept.marked (subst (λ q. IsTrue (on q)) (sym same) here.1))
  | inr ne ↦ kept.grows p here.0 (top p here high (omega arith))
]

pub visit_top_kept : (s : Size) (on : Place → Bool) (old new : Stamps) (n : ℕ) → IsFlood s on NoCell old → 1 ≤ s.rows → n < s.cols → new ≡ visited s on (record { row = 0; col = n }) old → IsKept s on NoCell old (record { row = 0; col = n }) new
visit_top_kept s on old new n h some less now =
    let p : Place = record { row = 0; col = n } in
    let within : IsWithin s p = (some, less) in
    subst (IsKept s on NoCell old p) (sym now) (visited_kept s on NoCell old h p within (λ here. IsReached-start s on p (within, here) refl))

-- one turn of the flood
pub record IsTurn (s : Size) (on : Place → Bool) (old new : Stamps) : Type 0 where
  pub flood : IsFlood s on NoCell new
  pub grows : Grows s old new

pub flood_turn : (s : Size) (on : Place → Bool) (p : Place) (old taken new : Stamps) → IsTaken s on p old taken → p.row + 1 ≢ s.rows → new ≡ spread s on p taken → IsTurn s on old new
flood_turn s on p old taken new t above now = subst (IsTurn s on old) (sym now) (record {
  flood = spread_flood s on p taken t.flood t.reached above;
  grows = λ q inside k. spread_grows s on p taken t.flood t.reached q inside (t.grows q inside k);
})

-- what the flood answers, once it is known whether a path stands
pub record IsAnswer (s : Size) (on : Place → Bool) (b : Bool) : Type 0 where
  pub not_cut : IsTrue b ↔ (CutBy s on → ⊥)
  pub cut : IsFalse b ↔ CutBy s on
  pub not_joined : IsFalse b ↔ (JoinedBy s on → ⊥)

pub answer : (s : Size) (on : Place → Bool) (b : Bool) → 0 < s.rows → 0 < s.cols → (IsTrue b ↔ JoinedBy s on) → IsAnswer s on b
answer s on b rows cols joined =
    let law = either_or s on rows cols in
    record {
      not_cut = (λ t. law.0.0 (joined.0 t), λ none. joined.1 (law.0.1 none));
      cut = (λ f. law.1.1 (λ j. both_ways b f (joined.1 j)), λ k. false_from_ne_true b (λ t. law.0.0 (joined.0 t) k));
      not_joined = (λ f j. both_ways b f (joined.1 j), λ none. false_from_ne_true b (λ t. none (joined.0 t)));
    }
