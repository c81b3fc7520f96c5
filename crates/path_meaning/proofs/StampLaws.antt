-- What a visit does to the stamps.
use Rattle.std.proofs.Common.{◌≡◌, ◌≢◌, ℕ, ◌*◌, ◌<◌, Bool, true, false, cond, not, ◌&&◌, nat_eq, length, get_or, refl, sym, ap, ◌∙◌, subst, arith, get_or-set_same, get_or-set_other}
use Rattle.std.proofs.Math.ListN.{set, length-set}
use Rattle.std.proofs.lemmas.Bool.{eq-eqb, false_from_ne_true}
use Rattle.std.proofs.lemmas.List.Sums.{sum_by-set, get_or-le-sum_by}
use Rattle.std.proofs.lemmas.Nat.{mul-add-lt, same_from_place}
use Rattle.lattice_grid.specs.declared.shape.Place.{Place}
use Rattle.lattice_grid.specs.Rectangle.{Size}
use Rattle.lattice_grid.specs.Path.{IsWithin}
use Rattle.path_meaning.specs.Stamps.{Stamps, pushed, index_of, is_marked, visited, visited_near, left_of, HasRoom}
use Rattle.lattice_grid.specs.Neighbours.{near_cell, has_near}
use Rattle.path_meaning.proofs.Decisions.{place_eq}

pub index_within : (s : Size) (p : Place) → IsWithin s p → index_of s p < s.rows * s.cols
index_within s p h = omega (arith, mul-add-lt p.row s.cols p.col s.rows h.0 h.1)

pub index_apart : (s : Size) (p q : Place) → IsWithin s p → IsWithin s q → p ≢ q → index_of s p ≢ index_of s q
index_apart s p q h k differ e = let same = same_from_place p.row p.col q.row q.col s.cols h.1 k.1 e in differ (place_eq p q same.0 same.1)

-- how much a stamp counts as not of this round
abbrev counts : ℕ → ℕ → ℕ
counts round stamp = cond (not (nat_eq stamp round)) 1 0

pub left_of-pushed : (i : ℕ) (p : Place) (m : Stamps) → i < length m.stamps → nat_eq (get_or m.stamps i 0) m.round ≡ false → left_of (pushed i p m) ≡ left_of m
unfolding pushed
left_of-pushed i p m within other =
    let e = sum_by-set (counts m.round) m.stamps i m.round 0 within in
    let one : counts m.round (get_or m.stamps i 0) ≡ 1 = ap (λ b. cond (not b) 1 0) other in
    let none : counts m.round m.round ≡ 0 = ap (λ b. cond (not b) 1 0) (eq-eqb m.round m.round refl) in
    omega (arith, e, one, none)

pub length-pushed : (i : ℕ) (p : Place) (m : Stamps) → length (pushed i p m).stamps ≡ length m.stamps
unfolding pushed
length-pushed i p m = length-set m.stamps i m.round

-- a cell that is not marked has room to wait
pub room_to_wait : (s : Size) (i : ℕ) (m : Stamps) → HasRoom s m → i < length m.stamps → nat_eq (get_or m.stamps i 0) m.round ≡ false → m.waiting < length m.stack
room_to_wait s i m room within other =
    let e = get_or-le-sum_by (counts m.round) m.stamps i 0 within in
    let one : counts m.round (get_or m.stamps i 0) ≡ 1 = ap (λ b. cond (not b) 1 0) other in
    omega (arith, e, one, room.same, room.left)

pub HasRoom-pushed : (s : Size) (i : ℕ) (p : Place) (m : Stamps) → HasRoom s m → i < length m.stamps → nat_eq (get_or m.stamps i 0) m.round ≡ false → HasRoom s (pushed i p m)
unfolding pushed
HasRoom-pushed s i p m room within other =
    let stamps = length-set m.stamps i m.round in
    let stack = length-set m.stack m.waiting p in
    record {
      cells = omega (arith, stamps, room.cells);
      same = omega (arith, stamps, stack, room.same);
      left = omega (arith, stamps, left_of-pushed i p m within other, room.left);
    }

module _ (s : Size) (on : Place → Bool) (p : Place) (m : Stamps) where
  pub visited-push : is_marked s m p ≡ false → on p ≡ true → visited s on p m ≡ pushed (index_of s p) p m
  unfolding visited
  visited-push a b = ap (λ t. cond (not t && on p) (pushed (index_of s p) p m) m) a ∙ ap (λ t. cond t (pushed (index_of s p) p m) m) b

  pub visited-marked : is_marked s m p ≡ true → visited s on p m ≡ m
  unfolding visited
  visited-marked a = ap (λ t. cond (not t && on p) (pushed (index_of s p) p m) m) a

  pub visited-off : on p ≡ false → visited s on p m ≡ m
  unfolding visited
  visited-off b = elim (is_marked s m p) as (λ t. cond (not t && on p) (pushed (index_of s p) p m) m ≡ m) [ true ↦ refl | false ↦ ap (λ t. cond t (pushed (index_of s p) p m) m) b ]

-- what one turn of the code has done
pub record IsVisit (s : Size) (on : Place → Bool) (p : Place) (old new : Stamps) : Type 0 where
  pub visited : new ≡ visited s on p old
  pub room : HasRoom s new
  pub left : left_of new ≡ left_of old
  pub cells : length new.stamps ≡ length old.stamps

pub visit-pushed : (s : Size) (on : Place → Bool) (p : Place) (old new : Stamps) (i : ℕ) → HasRoom s old → IsWithin s p → i ≡ index_of s p → nat_eq (get_or old.stamps i 0) old.round ≡ false → on p ≡ true → new ≡ pushed i p old → IsVisit s on p old new
visit-pushed s on p old new i room within e other here now =
    let below : index_of s p < length old.stamps = omega (arith, index_within s p within, room.cells) in
    let unmarked : is_marked s old p ≡ false = subst (λ j. nat_eq (get_or old.stamps j 0) old.round ≡ false) e other in
    let is : new ≡ pushed (index_of s p) p old = now ∙ ap (λ j. pushed j p old) e in
    record {
      visited = is ∙ sym (visited-push s on p old unmarked here);
      room = subst (HasRoom s) (sym is) (HasRoom-pushed s (index_of s p) p old room below unmarked);
      left = ap left_of is ∙ left_of-pushed (index_of s p) p old below unmarked;
      cells = ap (λ m. length m.stamps) is ∙ length-pushed (index_of s p) p old;
    }

pub visit-marked : (s : Size) (on : Place → Bool) (p : Place) (m : Stamps) (i : ℕ) → i ≡ index_of s p → nat_eq (get_or m.stamps i 0) m.round ≡ true → m ≡ visited s on p m
visit-marked s on p m i e here = sym (visited-marked s on p m (subst (λ j. nat_eq (get_or m.stamps j 0) m.round ≡ true) e here))

-- a near cell is visited where the rectangle has it
pub visit_near-some : (s t : Size) (on : Place → Bool) (p q : Place) (down right : ℕ) (old new : Stamps) → t ≡ s → has_near t p down right ≡ true → q ≡ near_cell p down right → new ≡ visited s on q old → new ≡ visited_near s on p down right old
unfolding visited_near
visit_near-some s t on p q down right old new e has is now =
    now ∙ ap (λ r. visited s on r old) is ∙ sym (ap (λ b. cond b (visited s on (near_cell p down right) old) old) (ap (λ z. has_near z p down right) (sym e) ∙ has))

pub visit_near-none : (s t : Size) (on : Place → Bool) (p : Place) (down right : ℕ) (m : Stamps) → t ≡ s → (has_near t p down right ≡ true → ⊥) → m ≡ visited_near s on p down right m
unfolding visited_near
visit_near-none s t on p down right m e none =
    sym (ap (λ b. cond b (visited s on (near_cell p down right) m) m) (ap (λ z. has_near z p down right) (sym e) ∙ false_from_ne_true (has_near t p down right) none))

-- after a cell is marked
module _ (s : Size) (p : Place) (m : Stamps) (room : HasRoom s m) (within : IsWithin s p) where
  pub marked-pushed_same : is_marked s (pushed (index_of s p) p m) p ≡ true
  unfolding pushed
  marked-pushed_same =
      let below : index_of s p < length m.stamps = omega (arith, index_within s p within, room.cells) in
      eq-eqb (get_or (set m.stamps (index_of s p) m.round) (index_of s p) 0) m.round (get_or-set_same m.stamps (index_of s p) m.round 0 below)

  pub marked-pushed_other : (q : Place) → IsWithin s q → q ≢ p → is_marked s (pushed (index_of s p) p m) q ≡ is_marked s m q
  unfolding pushed
  marked-pushed_other q h differ = ap (λ stamp. nat_eq stamp m.round) (get_or-set_other m.stamps (index_of s p) (index_of s q) m.round 0 (index_apart s q p h within differ))
