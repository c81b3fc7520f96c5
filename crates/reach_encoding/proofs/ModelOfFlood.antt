-- A flood marks the free cells that are reached from its start, and ends with a closed set.
use Rattle.std.proofs.Common.{◌≡◌, ◌≢◌, ℕ, ◌+◌, ◌*◌, ◌<◌, ◌↔◌, inl, inr, Bool, true, false, not, cond, List, [], ◌∷◌, ◌++◌, length, get_or, refl, sym, ap, ◌∙◌, subst, arith, get_or-set_same, get_or-set_other, length-append}
use Rattle.std.specs.List.{All, Contains, count_by}
use Rattle.std.proofs.Math.ListN.{set, length-set, replicate}
use Rattle.std.proofs.lemmas.Bool.{cases_eq, cases_lt, true≢false}
use Rattle.std.proofs.lemmas.List.{get_or_past, get_or-replicate, length-replicate}
use Rattle.std.proofs.lemmas.List.Elements.{Contains-get_or, Contains-push, Contains-push_cases, Contains-append_cases, Contains-append_left, Contains-append_right}
use Rattle.std.proofs.lemmas.List.Sums.{sum_by-set}
use Rattle.std.proofs.lemmas.Nat.{same_from_place}
use Rattle.lattice_grid.specs.declared.shape.Place.{Place}
use Rattle.lattice_grid.specs.Neighbours.{HasNeighbours}
use Rattle.lattice_grid.specs.Path.{IsWithin}
use Rattle.lattice_grid.specs.Rectangle.{Size}
use Rattle.lattice_grid.proofs.Tools.{place_eq, four_neighbours, eight_neighbours}
use Rattle.path_meaning.specs.Closed.{IsOn}
use Rattle.path_meaning.proofs.Tools.{Walk, stop, next, join, last_good, walk_from, path_from}
use Rattle.reach_encoding.specs.declared.flood.Side.{Side}
use Rattle.reach_encoding.specs.declared.flood.Side.TheVariants.{Down, Across}
use Rattle.reach_encoding.specs.Encoding.{number_of}
use Rattle.reach_encoding.specs.ModelOf.{StartsAt, AreNext, around, entry_of, IsReached, Spreads, IsFlood, IsFlooded}
use Rattle.reach_encoding.proofs.ModelNumbers.{number_of-below}

pub none_contained : {X : Type 0} (xs : List X) (x : X) → length xs ≡ 0 → Contains xs x → ⊥
none_contained xs x none h = let below = h.1 in omega arith

only_one : {X : Type 0} (x y : X) → Contains (x ∷ []) y → x ≡ y
only_one x y h = elim (Contains-push_cases [] x y h) [ inl k ↦ absurd (none_contained [] y refl k) | inr e ↦ e ]

pub around_near : (s : Size) (side : Side) (p : Place) → HasNeighbours (AreNext side) s p (around s side p)
around_near s Down p = four_neighbours s p
around_near s Across p = eight_neighbours s p

-- what visits of cells have done, one after another
module _ (s : Size) (free : List Bool) where
  pub spreads_none : (marks : List Bool) (waiting : List Place) → Spreads s free [] marks waiting marks waiting
  spreads_none marks waiting = record {
    cells = refl;
    kept = λ p h. h;
    came = λ p within h. inl h;
    entered = λ p here is. absurd (none_contained [] p refl here);
    waits = λ p h. h;
    listed = λ p h. inl h;
    left = refl;
  }

  pub spreads_more : (first second : List Place) (m1 m2 m3 : List Bool) (w1 w2 w3 : List Place) → Spreads s free first m1 w1 m2 w2 → Spreads s free second m2 w2 m3 w3
      → Spreads s free (first ++ second) m1 w1 m3 w3
  spreads_more first second m1 m2 m3 w1 w2 w3 a b = record {
    cells = b.cells ∙ a.cells;
    kept = λ p h. b.kept p (a.kept p h);
    came = λ p within h. elim (b.came p within h) [
      | inl before ↦ elim (a.came p within before) [
        | inl old ↦ inl old
        | inr k ↦ inr (Contains-append_left first second p k.0, k.1, b.waits p k.2)
      ]
      | inr k ↦ inr (Contains-append_right first second p k.0, k.1, k.2)
    ];
    entered = λ p here is. elim (Contains-append_cases first second p here) [
      | inl k ↦ b.kept p (a.entered p k is)
      | inr k ↦ b.entered p k is
    ];
    waits = λ p h. b.waits p (a.waits p h);
    listed = λ p h. elim (b.listed p h) [
      | inl before ↦ elim (a.listed p before) [
        | inl old ↦ inl old
        | inr k ↦ inr (Contains-append_left first second p k.0, b.kept p k.1)
      ]
      | inr k ↦ inr (Contains-append_right first second p k.0, k.1)
    ];
    left = b.left ∙ a.left;
  }

  -- a cell that is not free, or is marked already
  pub spreads_same : (p : Place) (marks : List Bool) (waiting : List Place) → (entry_of s free p ≡ true → entry_of s marks p ≡ true) → Spreads s free (p ∷ []) marks waiting marks waiting
  spreads_same p marks waiting has = record {
    cells = refl;
    kept = λ q h. h;
    came = λ q within h. inl h;
    entered = λ q here is. let e = only_one p q here in subst (λ r. entry_of s marks r ≡ true) e (has (subst (λ r. entry_of s free r ≡ true) (sym e) is));
    waits = λ q h. h;
    listed = λ q h. inl h;
    left = refl;
  }

  module _ (p : Place) (i : ℕ) (marks : List Bool) (waiting : List Place) (within : IsWithin s p) (cells : length marks ≡ s.rows * s.cols) (index : i ≡ number_of s p) where
    below : i < length marks
    below = let inside = number_of-below s p within in omega arith

    hit : (q : Place) → number_of s q ≡ i → entry_of s (set marks i true) q ≡ true
    hit q e = ap (λ j. get_or (set marks i true) j false) e ∙ get_or-set_same marks i true false below

    miss : (q : Place) → number_of s q ≢ i → entry_of s (set marks i true) q ≡ entry_of s marks q
    miss q ne = get_or-set_other marks i (number_of s q) true false ne

    same_place : (q : Place) → IsWithin s q → number_of s q ≡ i → p ≡ q
    same_place q there e =
        let same = same_from_place p.row p.col q.row q.col s.cols within.1 there.1 (sym index ∙ sym e) in
        place_eq p q same.0 same.1

    -- a cell that is free and not marked
    pub spreads_entered : get_or free i false ≡ true → get_or marks i false ≡ false → Spreads s free (p ∷ []) marks waiting (set marks i true) (waiting ++ p ∷ [])
    spreads_entered is unmarked = record {
      cells = length-set marks i true;
      kept = λ q h. elim (cases_eq (number_of s q) i) [ inl e ↦ hit q e | inr ne ↦ miss q ne ∙ h ];
      came = λ q there h. elim (cases_eq (number_of s q) i) [
        | inl e ↦
            let same = same_place q there e in
            inr (subst (λ r. Contains (p ∷ []) r) same (Contains-push [] p), ap (λ j. get_or free j false) e ∙ is, subst (λ r. Contains (waiting ++ p ∷ []) r) same (Contains-push waiting p))
        | inr ne ↦ inl (sym (miss q ne) ∙ h)
      ];
      entered = λ q here _. hit q (ap (number_of s) (sym (only_one p q here)) ∙ sym index);
      waits = λ q h. Contains-append_left waiting (p ∷ []) q h;
      listed = λ q h. elim (Contains-push_cases waiting p q h) [
        | inl before ↦ inl before
        | inr e ↦ inr (subst (λ r. Contains (p ∷ []) r) e (Contains-push [] p), hit q (ap (number_of s) (sym e) ∙ sym index))
      ];
      left = (
          let fewer = sum_by-set (λ b. cond (not b) 1 0) marks i true false below in
          let one : cond {A = ℕ} (not (get_or marks i false)) 1 0 ≡ 1 = ap (λ b. cond (not b) 1 0) unmarked in
          let longer = length-append waiting (p ∷ []) in
          omega arith
          );
    }

-- cells that are reached
module _ (s : Size) (free : List Bool) (side : Side) where
  reached_start : (p : Place) → IsWithin s p → entry_of s free p ≡ true → StartsAt side p → IsReached s free side p
  reached_start p within is at = path_from s (entry_of s free) (AreNext side) (StartsAt side) (λ q. q ≡ p) (stop (within, is)) at refl

  reached_next : (p q : Place) → IsReached s free side p → AreNext side p q → IsWithin s q → entry_of s free q ≡ true → IsReached s free side q
  reached_next p q h near within is =
      let w = walk_from s (entry_of s free) (AreNext side) (StartsAt side) (λ r. r ≡ p) h.0 h.1 in
      let v : Walk (IsOn s (entry_of s free)) (AreNext side) w.0 p = subst (λ r. Walk (IsOn s (entry_of s free)) (AreNext side) w.0 r) w.3 w.4 in
      path_from s (entry_of s free) (AreNext side) (StartsAt side) (λ r. r ≡ q)
      (join (IsOn s (entry_of s free)) (AreNext side) v (next (last_good (IsOn s (entry_of s free)) (AreNext side) v) near (stop (within, is)))) w.2 refl

  -- the visits of the cells at the start begin a flood
  pub flood_began : (starts : List Place) → ((p : Place) → Contains starts p ↔ (IsWithin s p × StartsAt side p)) → (old new : List Bool) (waited waiting : List Place)
      → length old ≡ s.rows * s.cols → ((k : ℕ) → get_or old k false ≡ false) → length waited ≡ 0 → Spreads s free starts old waited new waiting → IsFlood s free side new waiting
  flood_began starts are old new waited waiting cells unmarked none h = record {
    cells = h.cells ∙ cells;
    start = λ p within is at. h.entered p ((are p).1 (within, at)) is;
    listed = λ p here. elim (h.listed p here) [
      | inl before ↦ absurd (none_contained waited p none before)
      | inr k ↦ (((are p).0 k.0).0, k.1)
    ];
    reached = λ p within marked. elim (h.came p within marked) [
      | inl before ↦ absurd (true≢false (sym before ∙ unmarked (number_of s p)))
      | inr k ↦ reached_start p within k.1 ((are p).0 k.0).1
    ];
    settled = λ p within marked. elim (h.came p within marked) [
      | inl before ↦ absurd (true≢false (sym before ∙ unmarked (number_of s p)))
      | inr k ↦ inr k.2
    ];
  }

  -- the visits of the cells around one that waited go on with it
  pub flood_turn : (p : Place) (old new : List Bool) (waited rest waiting : List Place) → waited ≡ rest ++ p ∷ [] → IsFlood s free side old waited
      → Spreads s free (around s side p) old rest new waiting → IsFlood s free side new waiting
  flood_turn p old new waited rest waiting taken flood h = record {
    cells = h.cells ∙ flood.cells;
    start = λ q within is at. h.kept q (flood.start q within is at);
    listed = λ q here. elim (h.listed q here) [
      | inl before ↦ let k = flood.listed q (waited_rest q before) in (k.0, h.kept q k.1)
      | inr k ↦ (((around_near s side p q).0 k.0).0, k.1)
    ];
    reached = λ q within marked. elim (h.came q within marked) [
      | inl before ↦ flood.reached q within before
      | inr k ↦ reached_next p q (flood.reached p here.0 here.1) ((around_near s side p q).0 k.0).1 within k.1
    ];
    settled = λ q within marked. elim (h.came q within marked) [
      | inl before ↦ elim (flood.settled q within before) [
        | inl done ↦ inl (λ r near there is. h.kept r (done r near there is))
        | inr waits ↦ elim (Contains-push_cases rest p q (subst (λ xs. Contains xs q) taken waits)) [
          | inl k ↦ inr (h.waits q k)
          | inr e ↦ inl (λ r near there is. h.entered r ((around_near s side p r).1 (there, subst (λ x. AreNext side x r) (sym e) near)) is)
        ]
      ]
      | inr k ↦ inr k.2
    ];
  } where
    waited_rest : (q : Place) → Contains rest q → Contains waited q
    waited_rest q h = subst (λ xs. Contains xs q) (sym taken) (Contains-append_left rest (p ∷ []) q h)

    here : IsWithin s p × (entry_of s old p ≡ true)
    here = flood.listed p (subst (λ xs. Contains xs p) (sym taken) (Contains-push rest p))

  -- the cell that is taken is inside
  pub taken_within : (p : Place) (old : List Bool) (waited rest : List Place) → waited ≡ rest ++ p ∷ [] → IsFlood s free side old waited → IsWithin s p
  taken_within p old waited rest taken flood = (flood.listed p (subst (λ xs. Contains xs p) (sym taken) (Contains-push rest p))).0

  -- each turn leaves less
  pub fewer_left : (p : Place) (places : List Place) (old new : List Bool) (waited rest waiting : List Place) → waited ≡ rest ++ p ∷ []
      → Spreads s free places old rest new waiting → count_by not new + length waiting < count_by not old + length waited
  fewer_left p places old new waited rest waiting taken h =
      let longer : length waited ≡ length rest + 1 = ap length taken ∙ length-append rest (p ∷ []) in
      let left = h.left in
      omega arith

  pub flood_ended : (marks : List Bool) (waiting : List Place) → length waiting ≡ 0 → IsFlood s free side marks waiting → IsFlooded s free side marks
  flood_ended marks waiting none flood = record {
    cells = flood.cells;
    start = flood.start;
    step = λ p q within marked near there is. elim (flood.settled p within marked) [
      | inl done ↦ done q near there is
      | inr waits ↦ absurd (none_contained waiting p none waits)
    ];
    reached = flood.reached;
  }

-- the cells of a list that are all inside
pub near_within : (s : Size) (R : Place → Place → Type 0) (p : Place) (places items : List Place) → places ≡ items → HasNeighbours R s p items → All (IsWithin s) places
near_within s R p places items e has = subst (All (IsWithin s)) (sym e) (λ k d below. ((has (get_or items k d)).0 (Contains-get_or items k d below)).0)

pub starts_within : (s : Size) (side : Side) (places items : List Place) → places ≡ items → ((p : Place) → Contains items p ↔ (IsWithin s p × StartsAt side p)) → All (IsWithin s) places
starts_within s side places items e are = subst (All (IsWithin s)) (sym e) (λ k d below. ((are (get_or items k d)).0 (Contains-get_or items k d below)).0)

-- nothing is marked at first
pub unmarked : (marks : List Bool) (n : ℕ) → marks ≡ replicate n false → (k : ℕ) → get_or marks k false ≡ false
unmarked marks n e k = ap (λ xs. get_or xs k false) e ∙ elim (cases_lt k n) [
  | inl within ↦ get_or-replicate n k false false within
  | inr past ↦ get_or_past (replicate n false) k false (omega (arith, length-replicate n false))
]
