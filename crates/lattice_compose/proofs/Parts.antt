-- Paths and cuts of a rectangle that stands in a larger one.
use Rattle.std.proofs.Common.{◌≡◌, ℕ, ◌+◌, ◌-◌, ◌<◌, ◌≤◌, Bool, true, false, not, refl, ap, ◌∙◌, subst, inl, inr, arith}
use Rattle.std.proofs.lemmas.Bool.{cases_lt}
use Rattle.lattice_grid.specs.declared.shape.Place.{Place}
use Rattle.lattice_grid.specs.Rectangle.{Size}
use Rattle.lattice_grid.specs.Path.{IsWithin, AreFourNeighbours, AreEightNeighbours, JoinedBy, CutBy}
use Rattle.path_meaning.specs.Closed.{IsOn, IsOff}
use Rattle.path_meaning.proofs.Tools.{Walk, join, first_good, last_good, walk_from, path_from}
use Rattle.lattice_compose.proofs.Lines.{along, linked, moved, shifted, four_below, four_beside, four_shifted, eight_shifted, eight_of_four}

-- The smaller rectangle stands so far down and so far right in the larger one, cell by cell.
pub record IsPart (small large : Size) (on on' : Place → Bool) (down right : ℕ) : Type 0 where
  pub rows : small.rows + down ≤ large.rows
  pub cols : small.cols + right ≤ large.cols
  pub same : (p : Place) → IsWithin small p → on' (shifted down right p) ≡ on p

module _ (small large : Size) (on on' : Place → Bool) (down right : ℕ) (h : IsPart small large on on' down right) where
  part_on : (p : Place) → IsOn small on p → IsOn large on' (shifted down right p)
  part_on p g = let within = g.0 in ((omega (arith, h.rows), omega (arith, h.cols)), h.same p g.0 ∙ g.1)

  part_off : (p : Place) → IsOff small on p → IsOff large on' (shifted down right p)
  part_off p g = let within = g.0 in ((omega (arith, h.rows), omega (arith, h.cols)), ap not (h.same p g.0) ∙ g.1)

  pub part_walk : {p q : Place} → Walk (IsOn small on) AreFourNeighbours p q → Walk (IsOn large on') AreFourNeighbours (shifted down right p) (shifted down right q)
  part_walk w = moved (IsOn small on) (IsOn large on') AreFourNeighbours (shifted down right) part_on (four_shifted down right) w

  pub part_cut : {p q : Place} → Walk (IsOff small on) AreEightNeighbours p q → Walk (IsOff large on') AreEightNeighbours (shifted down right p) (shifted down right q)
  part_cut w = moved (IsOff small on) (IsOff large on') AreEightNeighbours (shifted down right) part_off (eight_shifted down right) w

-- the walks that a path and a cut are
abbrev pub PathWalk : Size → (Place → Bool) → Type 0
PathWalk s on = (p q : Place) × (p.row ≡ 0) × (q.row + 1 ≡ s.rows) × Walk (IsOn s on) AreFourNeighbours p q

abbrev pub CutWalk : Size → (Place → Bool) → Type 0
CutWalk s on = (p q : Place) × (p.col ≡ 0) × (q.col + 1 ≡ s.cols) × Walk (IsOff s on) AreEightNeighbours p q

path_walk : (s : Size) (on : Place → Bool) → JoinedBy s on → PathWalk s on
path_walk s on joined = walk_from s on AreFourNeighbours (λ p. p.row ≡ 0) (λ p. p.row + 1 ≡ s.rows) joined.0 joined.1

walk_path : (s : Size) (on : Place → Bool) {p q : Place} → Walk (IsOn s on) AreFourNeighbours p q → p.row ≡ 0 → q.row + 1 ≡ s.rows → JoinedBy s on
walk_path s on w first last = path_from s on AreFourNeighbours (λ p. p.row ≡ 0) (λ p. p.row + 1 ≡ s.rows) w first last

cut_walk : (s : Size) (on : Place → Bool) → CutBy s on → CutWalk s on
cut_walk s on cut = walk_from s (λ p. not (on p)) AreEightNeighbours (λ p. p.col ≡ 0) (λ p. p.col + 1 ≡ s.cols) cut.0 cut.1

walk_cut : (s : Size) (on : Place → Bool) {p q : Place} → Walk (IsOff s on) AreEightNeighbours p q → p.col ≡ 0 → q.col + 1 ≡ s.cols → CutBy s on
walk_cut s on w first last = path_from s (λ p. not (on p)) AreEightNeighbours (λ p. p.col ≡ 0) (λ p. p.col + 1 ≡ s.cols) w first last

-- a path of a part that begins at the top goes on down where its columns are on below
pub joined_down : (small large : Size) (on on' : Place → Bool) (right : ℕ) → IsPart small large on on' 0 right
    → ((p : Place) → small.rows ≤ p.row → p.row < large.rows → right ≤ p.col → p.col < small.cols + right → on' p ≡ true) → JoinedBy small on → JoinedBy large on'
joined_down small large on on' right h filled joined =
    let w = path_walk small on joined in
    let q : Place = w.1 in
    let low : q.row + 1 ≡ small.rows = w.3 in
    let good : IsOn small on q = last_good (IsOn small on) AreFourNeighbours w.4 in
    let within = good.0 in
    let inside = part_walk small large on on' 0 right h w.4 in
    let end : IsOn large on' (shifted 0 right q) = last_good (IsOn large on') AreFourNeighbours inside in
    let below : (k : ℕ) → q.row + 0 ≤ k → k < large.rows → IsOn large on' (record { row = k; col = q.col + right }) = λ k l k_in. elim (cases_lt k small.rows) [
      | inl here ↦ (let same : q.row + 0 ≡ k = omega arith in subst (λ n. IsOn large on' (record { row = n; col = q.col + right })) same end)
      | inr past ↦ ((k_in, omega (arith, h.cols)), filled (record { row = k; col = q.col + right }) past k_in (omega arith) (omega arith))
    ] in
    let on_down = along (IsOn large on') AreFourNeighbours (λ k. record { row = k; col = q.col + right }) (λ k. four_below k (q.col + right)) (q.row + 0) large.rows below
    (q.row + 0) (large.rows - 1) (omega arith) (omega (arith, h.rows)) (omega (arith, h.rows)) (omega (arith, h.rows)) in
    walk_path large on' (join (IsOn large on') AreFourNeighbours inside on_down) (omega (arith, w.2)) (omega (arith, h.rows))

-- a cut of a part that begins at the left goes on to the right where its rows are off there
pub cut_right : (small large : Size) (on on' : Place → Bool) (down : ℕ) → IsPart small large on on' down 0
    → ((p : Place) → small.cols ≤ p.col → p.col < large.cols → down ≤ p.row → p.row < small.rows + down → on' p ≡ false) → CutBy small on → CutBy large on'
cut_right small large on on' down h filled cut =
    let w = cut_walk small on cut in
    let q : Place = w.1 in
    let far : q.col + 1 ≡ small.cols = w.3 in
    let good : IsOff small on q = last_good (IsOff small on) AreEightNeighbours w.4 in
    let within = good.0 in
    let inside = part_cut small large on on' down 0 h w.4 in
    let end : IsOff large on' (shifted down 0 q) = last_good (IsOff large on') AreEightNeighbours inside in
    let beside : (k : ℕ) → q.col + 0 ≤ k → k < large.cols → IsOff large on' (record { row = q.row + down; col = k }) = λ k l k_in. elim (cases_lt k small.cols) [
      | inl here ↦ (let same : q.col + 0 ≡ k = omega arith in subst (λ n. IsOff large on' (record { row = q.row + down; col = n })) same end)
      | inr past ↦ ((omega (arith, h.rows), k_in), ap not (filled (record { row = q.row + down; col = k }) past k_in (omega arith) (omega arith)))
    ] in
    let on_right = along (IsOff large on') AreEightNeighbours (λ k. record { row = q.row + down; col = k })
    (λ k. (let n = four_beside (q.row + down) k in (eight_of_four _ _ n.0, eight_of_four _ _ n.1))) (q.col + 0) large.cols beside
    (q.col + 0) (large.cols - 1) (omega arith) (omega (arith, h.cols)) (omega (arith, h.cols)) (omega (arith, h.cols)) in
    walk_cut large on' (join (IsOff large on') AreEightNeighbours inside on_right) (omega (arith, w.2)) (omega (arith, h.cols))

-- the paths of two parts, one under the other, are joined through a row that is on
pub joined_through : (a b g : Size) (on_a on_b on : Place → Bool) → IsPart a g on_a on 0 0 → IsPart b g on_b on (a.rows + 1) 0 → g.rows ≡ a.rows + 1 + b.rows
    → ((p : Place) → p.row ≡ a.rows → p.col < g.cols → on p ≡ true) → JoinedBy a on_a → JoinedBy b on_b → JoinedBy g on
joined_through a b g on_a on_b on ha hb rows through ja jb =
    let v = path_walk a on_a ja in
    let w = path_walk b on_b jb in
    let p : Place = v.1 in
    let q : Place = w.0 in
    let upper = part_walk a g on_a on 0 0 ha v.4 in
    let lower = part_walk b g on_b on (a.rows + 1) 0 hb w.4 in
    let from : IsOn g on (shifted 0 0 p) = last_good (IsOn g on) AreFourNeighbours upper in
    let to : IsOn g on (shifted (a.rows + 1) 0 q) = first_good (IsOn g on) AreFourNeighbours lower in
    let from_in = from.0 in
    let to_in = to.0 in
    let row = along (IsOn g on) AreFourNeighbours (λ k. record { row = a.rows; col = k }) (λ k. four_beside a.rows k) 0 g.cols
    (λ k l k_in. ((omega (arith, rows), k_in), through (record { row = a.rows; col = k }) refl k_in))
    (p.col + 0) (q.col + 0) (omega arith) (omega arith) (omega arith) (omega arith) in
    walk_path g on (linked (IsOn g on) AreFourNeighbours upper (inr (refl, inl (omega (arith, v.3)))) row (inr (refl, inl (omega (arith, w.2)))) lower)
    (omega (arith, v.2)) (omega (arith, w.3, rows))

-- the cuts of two parts, side by side, are joined through a column that is off
pub cut_through : (a b g : Size) (on_a on_b on : Place → Bool) → IsPart a g on_a on 0 0 → IsPart b g on_b on 0 (a.cols + 1) → g.cols ≡ a.cols + 1 + b.cols
    → ((p : Place) → p.row < g.rows → p.col ≡ a.cols → on p ≡ false) → CutBy a on_a → CutBy b on_b → CutBy g on
cut_through a b g on_a on_b on ha hb cols through ca cb =
    let v = cut_walk a on_a ca in
    let w = cut_walk b on_b cb in
    let p : Place = v.1 in
    let q : Place = w.0 in
    let left = part_cut a g on_a on 0 0 ha v.4 in
    let right = part_cut b g on_b on 0 (a.cols + 1) hb w.4 in
    let from : IsOff g on (shifted 0 0 p) = last_good (IsOff g on) AreEightNeighbours left in
    let to : IsOff g on (shifted 0 (a.cols + 1) q) = first_good (IsOff g on) AreEightNeighbours right in
    let from_in = from.0 in
    let to_in = to.0 in
    let column = along (IsOff g on) AreEightNeighbours (λ k. record { row = k; col = a.cols }) (λ k. (let n = four_below k a.cols in (eight_of_four _ _ n.0, eight_of_four _ _ n.1))) 0 g.rows
    (λ k l k_in. ((k_in, omega (arith, cols)), ap not (through (record { row = k; col = a.cols }) k_in refl)))
    (p.row + 0) (q.row + 0) (omega arith) (omega arith) (omega arith) (omega arith) in
    walk_cut g on (linked (IsOff g on) AreEightNeighbours left (eight_of_four _ _ (inl (refl, inl (omega (arith, v.3))))) column (eight_of_four _ _ (inl (refl, inl (omega (arith, w.2))))) right)
    (omega (arith, v.2)) (omega (arith, w.3, cols))
