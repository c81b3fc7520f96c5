-- One step of the cut, from (a, x) to (b, y), seen from a cell at row r and column c.
use Rattle.std.proofs.Common.{◌≡◌, ℕ, ◌+◌, ◌<◌, ◌≤◌, Bool, false, ◌&&◌, eqb, ltb, leb, arith}
use Rattle.std.proofs.lemmas.Bool.Decides.{nat_tests}
use Rattle.lattice_grid.specs.Path.{DifferByAtMostOne}
use Rattle.path_meaning.proofs.Walks.{xor}

-- a cell at row a and column x stands in column c above row r
abbrev pub above : ℕ → ℕ → ℕ → ℕ → Bool
above r c a x = ltb a r && eqb x c

-- the step leads between column c and the next, and its end in column c is above row r
abbrev pub cross : ℕ → ℕ → ℕ → ℕ → ℕ → ℕ → Bool
cross r c a x b y = xor (above r c a x && eqb y (c + 1)) (above r c b y && eqb x (c + 1))

pub down_step : (r c a x b y : ℕ) → (a ≡ r → x ≡ c → ⊥) → (b ≡ r → y ≡ c → ⊥) → cross r c a x b y ≡ xor (cross (r + 1) c a x b y) false
down_step r c a x b y p q = grind (arith, nat_tests)

pub down_last : (r c a x : ℕ) → (a ≡ r → x ≡ c → ⊥) → above r c a x ≡ xor (above (r + 1) c a x) false
down_last r c a x p = grind (arith, nat_tests)

pub right_step : (r c a x b y : ℕ) → DifferByAtMostOne a b → DifferByAtMostOne x y → (a ≡ r → x ≡ c → ⊥) → (a ≡ r → x ≡ c + 1 → ⊥) → (b ≡ r → y ≡ c → ⊥) → (b ≡ r → y ≡ c + 1 → ⊥) →
    cross r c a x b y ≡ xor (cross r (c + 1) a x b y) (xor (above r (c + 1) a x) (above r (c + 1) b y))
right_step r c a x b y k l p0 p1 q0 q1 = grind (arith, nat_tests)

pub right_last : (r c a x : ℕ) → c < x → above r c a x ≡ xor (above r (c + 1) a x) (above r (c + 1) a x)
right_last r c a x h = grind (arith, nat_tests)

pub right_first : (r c a x : ℕ) → x ≡ 0 → above r (c + 1) a x ≡ false
right_first r c a x h = grind (arith, nat_tests)

pub bottom_step : (r c a x b y : ℕ) → a ≤ r → b ≤ r → DifferByAtMostOne x y → (a ≡ r → x ≡ c → ⊥) → (b ≡ r → y ≡ c → ⊥) → cross r c a x b y ≡ xor (leb x c) (leb y c)
bottom_step r c a x b y k l h p q = grind (arith, nat_tests)

pub bottom_last : (r c a x : ℕ) → a ≤ r → c ≤ x → (a ≡ r → x ≡ c → ⊥) → above r c a x ≡ leb x c
bottom_last r c a x k h p = grind (arith, nat_tests)

pub top_step : (c a x b y : ℕ) → cross 0 c a x b y ≡ false
top_step c a x b y = grind (arith, nat_tests)

pub top_last : (c a x : ℕ) → above 0 c a x ≡ false
top_last c a x = grind (arith, nat_tests)
