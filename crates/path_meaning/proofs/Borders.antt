-- Two sets of cells cannot both be closed and stop short of their far sides: the parity of the borders between them, column by column.
use Rattle.std.proofs.Common.{◌≡◌, ℕ, zero, suc, ◌<◌, ◌≤◌, Bool, true, false, not, ◌&&◌, ◌||◌, refl, sym, ap, ◌∙◌, inl, inr, arith}
use Rattle.std.proofs.lemmas.Bool.{or_cases, false≢true}
use Rattle.lattice_grid.specs.Path.{DifferByAtMostOne}
use Rattle.path_meaning.proofs.Walks.{xor}

-- the border between two cells: one of them is in the first set and the other is not, and one is in the second set
abbrev edge : Bool → Bool → Bool → Bool → Bool
edge sx kx sy ky = xor sx sy && (kx || ky)

-- beside cells of the second set each change of the first set is a border
edge_is : (sx kx ox sy ky oy k : Bool) → (sx ≡ true → sy ≡ false → oy ≡ false) → (sy ≡ true → sx ≡ false → ox ≡ false) → (k ≡ true → ox ≡ false → kx ≡ true) → (k ≡ true → oy ≡ false → ky ≡ true) → (kx ≡ true → k ≡ true) → (ky ≡ true → k ≡ true) → edge sx kx sy ky ≡ (k && xor sx sy)
edge_is sx kx ox sy ky oy k h1 h2 h3 h4 h5 h6 = grind arith

-- round four cells the changes are even in number
round : (k a b d e : Bool) → (k && xor d e) ≡ xor (k && xor a b) (xor (k && xor a d) (k && xor b e))
round k a b d e = grind arith

-- a border needs a cell of the second set
no_edge : (sx kx sy ky : Bool) → kx ≡ false → ky ≡ false → edge sx kx sy ky ≡ false
no_edge sx kx sy ky h1 h2 = grind arith

-- in the left column each change is a border
full_edge : (sx kx ox sy ky oy : Bool) → (sx ≡ true → sy ≡ false → oy ≡ false) → (sy ≡ true → sx ≡ false → ox ≡ false) → (ox ≡ false → kx ≡ true) → (oy ≡ false → ky ≡ true) → edge sx kx sy ky ≡ xor sx sy
full_edge sx kx ox sy ky oy h1 h2 h3 h4 = grind arith

same_edge : (sx kx sy ky : Bool) → sx ≡ sy → edge sx kx sy ky ≡ false
same_edge sx kx sy ky h = grind arith

add_pairs : (a b h h' v v' : Bool) → xor a b ≡ h → h' ≡ xor h (xor v v') → xor (xor a v) (xor b v') ≡ h'
add_pairs a b h h' v v' p q = grind arith

add_one_edge : (n a b v : Bool) → n ≡ not a → v ≡ xor a b → xor n v ≡ not b
add_one_edge n a b v p q = grind arith

same_from_xor : (a b : Bool) → xor a b ≡ false → a ≡ true → b ≡ true
same_from_xor a b p q = grind arith

-- rows up to n and columns up to m; which cells are on; the first set, and the second
module _ (n m : ℕ) (on S K : ℕ → ℕ → Bool)
    (S_down : (r c : ℕ) → r < n → c ≤ m → S r c ≡ true → S (suc r) c ≡ false → on (suc r) c ≡ false)
    (S_up : (r c : ℕ) → r < n → c ≤ m → S (suc r) c ≡ true → S r c ≡ false → on r c ≡ false)
    (S_right : (r c : ℕ) → r ≤ n → c < m → S r c ≡ true → S r (suc c) ≡ false → on r (suc c) ≡ false)
    (S_left : (r c : ℕ) → r ≤ n → c < m → S r (suc c) ≡ true → S r c ≡ false → on r c ≡ false)
    (K_near : (a x b y : ℕ) → a ≤ n → x ≤ m → b ≤ n → y ≤ m → DifferByAtMostOne a b → DifferByAtMostOne x y → K a x ≡ true → on b y ≡ false → K b y ≡ true)
    (S_top : (c : ℕ) → c ≤ m → S 0 c ≡ true) (S_bottom : (c : ℕ) → c ≤ m → S n c ≡ false)
    (K_first : (r : ℕ) → r ≤ n → on r 0 ≡ false → K r 0 ≡ true) (K_last : (r : ℕ) → r ≤ n → K r m ≡ false) where
  down_edge : ℕ → ℕ → Bool
  down_edge r c = edge (S r c) (K r c) (S (suc r) c) (K (suc r) c)

  right_edge : ℕ → ℕ → Bool
  right_edge r c = edge (S r c) (K r c) (S r (suc c)) (K r (suc c))

  -- some cell of the block is in the second set
  some : ℕ → ℕ → Bool
  some r c = (K r c || K r (suc c)) || (K (suc r) c || K (suc r) (suc c))

  some_near : (r c b y : ℕ) → r < n → c < m → r ≤ b → b ≤ suc r → c ≤ y → y ≤ suc c → some r c ≡ true → on b y ≡ false → K b y ≡ true
  unfolding some
  some_near r c b y h k b0 b1 y0 y1 e o = elim (or_cases (K r c || K r (suc c)) (K (suc r) c || K (suc r) (suc c)) e) [
    | inl f ↦ elim (or_cases (K r c) (K r (suc c)) f) [
      | inl g ↦ K_near r c b y (omega arith) (omega arith) (omega arith) (omega arith) (omega arith) (omega arith) g o
      | inr g ↦ K_near r (suc c) b y (omega arith) (omega arith) (omega arith) (omega arith) (omega arith) (omega arith) g o
    ]
    | inr f ↦ elim (or_cases (K (suc r) c) (K (suc r) (suc c)) f) [
      | inl g ↦ K_near (suc r) c b y (omega arith) (omega arith) (omega arith) (omega arith) (omega arith) (omega arith) g o
      | inr g ↦ K_near (suc r) (suc c) b y (omega arith) (omega arith) (omega arith) (omega arith) (omega arith) (omega arith) g o
    ]
  ]

  in_some : (r c : ℕ) → (K r c ≡ true → some r c ≡ true) × (K r (suc c) ≡ true → some r c ≡ true) × (K (suc r) c ≡ true → some r c ≡ true) × (K (suc r) (suc c) ≡ true → some r c ≡ true)
  unfolding some
  in_some r c = (λ h. grind arith, λ h. grind arith, λ h. grind arith, λ h. grind arith)

  block : (r c : ℕ) → r < n → c < m → right_edge (suc r) c ≡ xor (right_edge r c) (xor (down_edge r c) (down_edge r (suc c)))
  unfolding right_edge down_edge
  block r c h k =
      let i = in_some r c in
      let t = some_near r c r c h k (omega arith) (omega arith) (omega arith) (omega arith) in
      let t' = some_near r c r (suc c) h k (omega arith) (omega arith) (omega arith) (omega arith) in
      let u = some_near r c (suc r) c h k (omega arith) (omega arith) (omega arith) (omega arith) in
      let u' = some_near r c (suc r) (suc c) h k (omega arith) (omega arith) (omega arith) (omega arith) in
      let top = edge_is (S r c) (K r c) (on r c) (S r (suc c)) (K r (suc c)) (on r (suc c)) (some r c) (S_right r c (omega arith) k) (S_left r c (omega arith) k) t t' i.0 i.1 in
      let low = edge_is (S (suc r) c) (K (suc r) c) (on (suc r) c) (S (suc r) (suc c)) (K (suc r) (suc c)) (on (suc r) (suc c)) (some r c) (S_right (suc r) c h k) (S_left (suc r) c h k) u u' i.2 i.3 in
      let first = edge_is (S r c) (K r c) (on r c) (S (suc r) c) (K (suc r) c) (on (suc r) c) (some r c) (S_down r c h (omega arith)) (S_up r c h (omega arith)) t u i.0 i.2 in
      let second = edge_is (S r (suc c)) (K r (suc c)) (on r (suc c)) (S (suc r) (suc c)) (K (suc r) (suc c)) (on (suc r) (suc c)) (some r c) (S_down r (suc c) h k) (S_up r (suc c) h k) t' u' i.1 i.3 in
      let r4 = round (some r c) (S r c) (S r (suc c)) (S (suc r) c) (S (suc r) (suc c)) in
      cc

  -- the parity of the borders in a column, above row r
  borders : ℕ → ℕ → Bool
  borders zero c = false
  borders (suc r) c = xor (borders r c) (down_edge r c)

  two_columns : (r c : ℕ) → r ≤ n → c < m → xor (borders r c) (borders r (suc c)) ≡ right_edge r c
  unfolding borders right_edge
  two_columns zero c h k = sym (same_edge (S 0 c) (K 0 c) (S 0 (suc c)) (K 0 (suc c)) (S_top c (omega arith) ∙ sym (S_top (suc c) k)))
  two_columns (suc r) c h k = add_pairs (borders r c) (borders r (suc c)) (right_edge r c) (right_edge (suc r) c) (down_edge r c) (down_edge r (suc c)) (two_columns r c (omega arith) k) (block r c h k)

  first_column : (r : ℕ) → r ≤ n → borders r 0 ≡ not (S r 0)
  unfolding borders down_edge
  first_column zero h = sym (ap not (S_top 0 (omega arith)))
  first_column (suc r) h = add_one_edge (borders r 0) (S r 0) (S (suc r) 0) (down_edge r 0) (first_column r (omega arith))
      (full_edge (S r 0) (K r 0) (on r 0) (S (suc r) 0) (K (suc r) 0) (on (suc r) 0) (S_down r 0 h (omega arith)) (S_up r 0 h (omega arith)) (K_first r (omega arith)) (K_first (suc r) h))

  last_column : (r : ℕ) → r ≤ n → borders r m ≡ false
  unfolding borders down_edge
  last_column zero h = refl
  last_column (suc r) h =
      let e = last_column r (omega arith) in
      let f = no_edge (S r m) (K r m) (S (suc r) m) (K (suc r) m) (K_last r (omega arith)) (K_last (suc r) h) in
      ap (λ b. xor b (down_edge r m)) e ∙ f

  flat_bottom : (c : ℕ) → c < m → right_edge n c ≡ false
  unfolding right_edge
  flat_bottom c h = same_edge (S n c) (K n c) (S n (suc c)) (K n (suc c)) (S_bottom c (omega arith) ∙ sym (S_bottom (suc c) h))

  all_columns : (c : ℕ) → c ≤ m → borders n c ≡ true
  all_columns zero h = first_column n (omega arith) ∙ ap not (S_bottom 0 (omega arith))
  all_columns (suc c) h = same_from_xor (borders n c) (borders n (suc c)) (two_columns n c (omega arith) h ∙ flat_bottom c h) (all_columns c (omega arith))

  pub not_both_stop : ⊥
  not_both_stop = false≢true (sym (last_column n (omega arith)) ∙ all_columns m (omega arith))
