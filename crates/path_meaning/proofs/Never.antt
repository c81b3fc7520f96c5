-- A path and a cut never stand in one grid: the parity of the cut's steps above a cell of the path stays, and differs at the ends.
use Rattle.std.proofs.Common.{◌≡◌, ℕ, ◌+◌, ◌<◌, ◌≤◌, Bool, true, false, not, leb, refl, sym, ap, ◌∙◌, subst, inl, inr, arith}
use Rattle.std.proofs.lemmas.Bool.{le-leb, true≢false}
use Rattle.std.specs.Prelude.{IsTrue}
use Rattle.lattice_grid.specs.declared.shape.Place.{Place}
use Rattle.lattice_grid.specs.Rectangle.{Size}
use Rattle.lattice_grid.specs.Path.{AreFourNeighbours, AreEightNeighbours}
use Rattle.path_meaning.specs.Closed.{IsOn, IsOff}
use Rattle.path_meaning.specs.Crossing.{IsNeverBoth}
use Rattle.path_meaning.proofs.Walks.{Walk, stop, next, xor, first_good, last_good, walk_from, total, telescope, total_none}
use Rattle.path_meaning.proofs.Steps.{above, cross, down_step, down_last, right_step, right_last, right_first, bottom_step, bottom_last, top_step, top_last}

xor_false : (b : Bool) → xor b false ≡ b
xor_false true = refl
xor_false false = refl

place_eq : (p q : Place) → p.row ≡ q.row → p.col ≡ q.col → p ≡ q
place_eq p q e f = λ i. record { row = e i; col = f i }

not_both : (b : Bool) → IsTrue b → IsTrue (not b) → ⊥
not_both true g h = cc
not_both false g h = cc

module _ (s : Size) (on : Place → Bool) where
  -- an on cell is no off cell
  apart : (z p : Place) → IsOff s on z → IsOn s on p → z.row ≡ p.row → z.col ≡ p.col → ⊥
  apart z p off here e f = not_both (on p) here.1 (subst (λ c. IsTrue (not (on c))) (place_eq z p e f) off.1)

  -- the parity of the cut's steps that lie above a cell
  over : (r c : ℕ) {a b : Place} → Walk (IsOff s on) AreEightNeighbours a b → Bool
  over r c w = total (IsOff s on) AreEightNeighbours (λ p q. cross r c p.row p.col q.row q.col) (λ p. above r c p.row p.col) w

  down : (p : Place) → IsOn s on p → {a b : Place} (w : Walk (IsOff s on) AreEightNeighbours a b) → over p.row p.col w ≡ over (p.row + 1) p.col w
  unfolding over
  down p here {a = a} {b = b} w = telescope (IsOff s on) AreEightNeighbours
      (λ x y. cross p.row p.col x.row x.col y.row y.col) (λ x y. cross (p.row + 1) p.col x.row x.col y.row y.col)
      (λ x. above p.row p.col x.row x.col) (λ x. above (p.row + 1) p.col x.row x.col) (λ _. false)
      (λ x y g h n. down_step p.row p.col x.row x.col y.row y.col (apart x p g here) (apart y p h here))
      w (down_last p.row p.col b.row b.col (apart b p (last_good (IsOff s on) AreEightNeighbours w) here)) ∙ xor_false (over (p.row + 1) p.col w)

  right : (p q : Place) → IsOn s on p → IsOn s on q → q.row ≡ p.row → q.col ≡ p.col + 1 → {a b : Place} (w : Walk (IsOff s on) AreEightNeighbours a b) → a.col ≡ 0 → b.col + 1 ≡ s.cols → over p.row p.col w ≡ over p.row (p.col + 1) w
  unfolding over
  right p q here there e f {a = a} {b = b} w first last =
      let far : (z : Place) → IsOff s on z → z.row ≡ p.row → z.col ≡ p.col + 1 → ⊥ = λ z g k l. apart z q g there (k ∙ sym e) (l ∙ sym f) in
      let room : q.col < s.cols = there.0.1 in
      telescope (IsOff s on) AreEightNeighbours
      (λ x y. cross p.row p.col x.row x.col y.row y.col) (λ x y. cross p.row (p.col + 1) x.row x.col y.row y.col)
      (λ x. above p.row p.col x.row x.col) (λ x. above p.row (p.col + 1) x.row x.col) (λ x. above p.row (p.col + 1) x.row x.col)
      (λ x y g h n. right_step p.row p.col x.row x.col y.row y.col n.1 n.2 (apart x p g here) (far x g) (apart y p h here) (far y h))
      w (right_last p.row p.col b.row b.col (omega arith))
      ∙ ap (λ t. xor (over p.row (p.col + 1) w) t) (right_first p.row p.col a.row a.col first) ∙ xor_false (over p.row (p.col + 1) w)

  bottom : (p : Place) → IsOn s on p → p.row + 1 ≡ s.rows → {a b : Place} (w : Walk (IsOff s on) AreEightNeighbours a b) → a.col ≡ 0 → b.col + 1 ≡ s.cols → over p.row p.col w ≡ true
  unfolding over
  bottom p here end {a = a} {b = b} w first last =
      let room : p.col < s.cols = here.0.1 in
      let low : (z : Place) → IsOff s on z → z.row ≤ p.row = λ z g. let k : z.row < s.rows = g.0.0 in omega arith in
      telescope (IsOff s on) AreEightNeighbours
      (λ x y. cross p.row p.col x.row x.col y.row y.col) (λ _ _. false)
      (λ x. above p.row p.col x.row x.col) (λ _. false) (λ x. leb x.col p.col)
      (λ x y g h n. bottom_step p.row p.col x.row x.col y.row y.col (low x g) (low y h) n.2 (apart x p g here) (apart y p h here))
      w (bottom_last p.row p.col b.row b.col (low b (last_good (IsOff s on) AreEightNeighbours w)) (omega arith) (apart b p (last_good (IsOff s on) AreEightNeighbours w) here))
      ∙ ap (λ t. xor t (leb a.col p.col)) (total_none (IsOff s on) AreEightNeighbours w) ∙ le-leb a.col p.col (omega arith)

  top : (c : ℕ) {a b : Place} (w : Walk (IsOff s on) AreEightNeighbours a b) → over 0 c w ≡ false
  unfolding over
  top c {a = a} {b = b} w = telescope (IsOff s on) AreEightNeighbours
      (λ x y. cross 0 c x.row x.col y.row y.col) (λ _ _. false)
      (λ x. above 0 c x.row x.col) (λ _. false) (λ _. false)
      (λ x y g h n. top_step c x.row x.col y.row y.col)
      w (top_last c b.row b.col) ∙ xor_false (total (IsOff s on) AreEightNeighbours (λ _ _. false) (λ _. false) w) ∙ total_none (IsOff s on) AreEightNeighbours w

  module _ {a b : Place} (w : Walk (IsOff s on) AreEightNeighbours a b) (first : a.col ≡ 0) (last : b.col + 1 ≡ s.cols) where
    up_down : (p q : Place) → IsOn s on p → IsOn s on q → q.row ≡ p.row + 1 → q.col ≡ p.col → over p.row p.col w ≡ over q.row q.col w
    up_down p q here there e f = let d = down p here w in cc

    left_right : (p q : Place) → IsOn s on p → IsOn s on q → q.row ≡ p.row → q.col ≡ p.col + 1 → over p.row p.col w ≡ over q.row q.col w
    left_right p q here there e f = let d = right p q here there e f w first last in cc

    move : (p q : Place) → IsOn s on p → IsOn s on q → AreFourNeighbours p q → over p.row p.col w ≡ over q.row q.col w
    move p q here there n = elim n [
      | inl h ↦ elim h.1 [ inl k ↦ left_right p q here there (sym h.0) (sym k) | inr k ↦ sym (left_right q p there here h.0 (sym k)) ]
      | inr h ↦ elim h.1 [ inl k ↦ up_down p q here there (sym k) (sym h.0) | inr k ↦ sym (up_down q p there here (sym k) h.0) ]
    ]

    along : {p q : Place} → Walk (IsOn s on) AreFourNeighbours p q → over p.row p.col w ≡ over q.row q.col w
    along (stop g) = refl
    along (next {p = p} {q = q} g n v) = move p q g (first_good (IsOn s on) AreFourNeighbours v) n ∙ along v

    meets : {p q : Place} → Walk (IsOn s on) AreFourNeighbours p q → p.row ≡ 0 → IsOn s on q → q.row + 1 ≡ s.rows → ⊥
    meets {p = p} {q = q} v high good low =
        let t = top p.col w in
        let e = along v in
        let f = bottom q good low w first last in
        let g : over p.row p.col w ≡ over 0 p.col w = ap (λ r. over r p.col w) high in
        true≢false (sym f ∙ sym e ∙ g ∙ t)

-- a path and a cut have a cell in common, which is on and off
pub never_both : IsNeverBoth
never_both s on joined cut =
    let v = walk_from s on AreFourNeighbours (λ p. p.row ≡ 0) (λ p. p.row + 1 ≡ s.rows) joined.0 joined.1 in
    let w = walk_from s (λ c. not (on c)) AreEightNeighbours (λ p. p.col ≡ 0) (λ p. p.col + 1 ≡ s.cols) cut.0 cut.1 in
    meets s on w.4 w.2 w.3 v.4 v.2 (last_good (IsOn s on) AreFourNeighbours v.4) v.3
