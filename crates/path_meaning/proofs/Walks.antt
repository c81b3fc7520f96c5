-- Walks: paths as data, for inductions; and parities over a walk.
use Rattle.std.proofs.Common.{◌≡◌, Bool, true, false, not, List, [], ◌∷◌, refl, ap, ◌∙◌, arith}
use Rattle.lattice_grid.specs.declared.shape.Place.{Place}
use Rattle.lattice_grid.specs.Rectangle.{Size}
use Rattle.lattice_grid.specs.Path.{IsWithin, IsChain, Last, IsCrossing}
use Rattle.path_meaning.specs.Closed.{IsOn}
use Rattle.std.specs.Prelude.{All}
use Rattle.std.proofs.lemmas.List.Elements.{All-nil, All-cons, All-head, All-tail}

-- a walk from one cell to another, over cells that are Good, by steps that are Near
pub data Walk (Good : Place → Type 0) (Near : Place → Place → Type 0) : Place → Place → Type 0 where
  stop : {p : Place} → Good p → Walk Good Near p p
  next : {p q r : Place} → Good p → Near p q → Walk Good Near q r → Walk Good Near p r

abbrev pub xor : Bool → Bool → Bool
xor true b = not b
xor false b = b

module _ (Good : Place → Type 0) (Near : Place → Place → Type 0) where
  pub join : {p q r : Place} → Walk Good Near p q → Walk Good Near q r → Walk Good Near p r
  join (stop g) w = w
  join (next g n v) w = next g n (join v w)

  pub first_good : {p q : Place} → Walk Good Near p q → Good p
  first_good (stop g) = g
  first_good (next g n w) = g

  pub last_good : {p q : Place} → Walk Good Near p q → Good q
  last_good (stop g) = g
  last_good (next g n w) = last_good w

  -- the parity of what the steps and the last cell count
  pub total : (Place → Place → Bool) → (Place → Bool) → {p q : Place} → Walk Good Near p q → Bool
  total F B (stop {p = p} g) = B p
  total F B (next {p = p} {q = q} g n w) = xor (F p q) (total F B w)

  shuffle : (a x y t : Bool) → xor (xor a (xor x y)) (xor t y) ≡ xor (xor a t) x
  shuffle a x y t = grind arith

  -- where two counts differ at each step by the change of G, they differ by G at the first cell
  pub telescope : (F F' : Place → Place → Bool) (B B' G : Place → Bool) → ((p q : Place) → Good p → Good q → Near p q → F p q ≡ xor (F' p q) (xor (G p) (G q))) → {p q : Place} (w : Walk Good Near p q) → B q ≡ xor (B' q) (G q) → total F B w ≡ xor (total F' B' w) (G p)
  unfolding total
  telescope F F' B B' G each (stop g) last = last
  telescope F F' B B' G each (next {p = p} {q = q} g n w) last =
      let here = each p q g (first_good w) n in
      let rest = telescope F F' B B' G each w last in
      ap (λ b. xor b (total F B w)) here ∙ ap (λ b. xor (xor (F' p q) (xor (G p) (G q))) b) rest ∙ shuffle (F' p q) (G p) (G q) (total F' B' w)

  -- nothing is counted
  pub total_none : {p q : Place} (w : Walk Good Near p q) → total (λ _ _. false) (λ _. false) w ≡ false
  unfolding total
  total_none (stop g) = refl
  total_none (next g n w) = total_none w

module _ (s : Size) (set : Place → Bool) (Near : Place → Place → Type 0) where
  abbrev InSet : Place → Type 0
  InSet p = set p ≡ true

  walk_of : (There : Place → Type 0) (p : Place) (path : List Place) → All (IsWithin s) (p ∷ path) → All InSet (p ∷ path) → IsChain Near (p ∷ path) → Last There (p ∷ path) → (q : Place) × There q × Walk (IsOn s set) Near p q
  walk_of There p [] a b c e = (p, e, stop (All-head (IsWithin s) p [] a, All-head InSet p [] b))
  walk_of There p (q ∷ path) a b c e =
      let w = walk_of There q path (All-tail (IsWithin s) p (q ∷ path) a) (All-tail InSet p (q ∷ path) b) c.1 e in
      (w.0, w.1, next (All-head (IsWithin s) p (q ∷ path) a, All-head InSet p (q ∷ path) b) c.0 w.2)

  -- what a list of cells after p has, when it leads from p to There
  record Follows (There : Place → Type 0) (p : Place) (path : List Place) : Type 0 where
    inside : All (IsWithin s) (p ∷ path)
    in_set : All InSet (p ∷ path)
    chained : IsChain Near (p ∷ path)
    ends : Last There (p ∷ path)

  list_of : (There : Place → Type 0) {p q : Place} → Walk (IsOn s set) Near p q → There q → (path : List Place) × Follows There p path
  list_of There (stop {p = p} g) t = ([], record { inside = All-cons (IsWithin s) p [] g.0 (All-nil (IsWithin s)); in_set = All-cons InSet p [] g.1 (All-nil InSet); chained = tt; ends = t })
  list_of There (next {p = p} {q = q} g n w) t =
      let r = list_of There w t in
      (q ∷ r.0, record { inside = All-cons (IsWithin s) p (q ∷ r.0) g.0 r.1.inside; in_set = All-cons InSet p (q ∷ r.0) g.1 r.1.in_set; chained = (n, r.1.chained); ends = r.1.ends })

  -- a path is a walk, and a walk a path
  pub walk_from : (Here There : Place → Type 0) (path : List Place) → IsCrossing s set Near Here There path → (p q : Place) × Here p × There q × Walk (IsOn s set) Near p q
  walk_from Here There [] h = absurd h.starts
  walk_from Here There (p ∷ path) h = let w = walk_of There p path h.inside h.in_set h.chained h.ends in (p, w.0, h.starts, w.1, w.2)

  pub path_from : (Here There : Place → Type 0) {p q : Place} → Walk (IsOn s set) Near p q → Here p → There q → (path : List Place) × IsCrossing s set Near Here There path
  path_from Here There {p = p} w here there =
      let l = list_of There w there in
      (p ∷ l.0, record { inside = l.1.inside; in_set = l.1.in_set; chained = l.1.chained; starts = here; ends = l.1.ends })
