-- Values of the variables that a lattice gives make each clause of its encoding true.
use Rattle.std.proofs.Common.{◌≡◌, ℕ, suc, zero, ◌+◌, ◌<◌, Bool, true, false, not, List, ◌∷◌, map, subst, arith}
use Rattle.std.specs.List.{range_with_len}
use Rattle.std.proofs.lemmas.Bool.{or_left, or_right, not_from_false}
use Rattle.clause_core.specs.Literal.{Literal, is_true, clause_is_true}
use Rattle.reach_encoding.specs.Encoding.{yes, no}

-- a clause with a true literal
abbrev pub IsMet : (ℕ → Bool) → List Literal → Type 0
IsMet v clause = clause_is_true v clause ≡ true

-- a literal that is true makes its clause true
pub one_true : (v : ℕ → Bool) (l : Literal) (ls : List Literal) → is_true v l ≡ true → IsMet v (l ∷ ls)
one_true v l ls h = or_left (is_true v l) (clause_is_true v ls) h

pub later_true : (v : ℕ → Bool) (l : Literal) (ls : List Literal) → IsMet v ls → IsMet v (l ∷ ls)
later_true v l ls h = or_right (is_true v l) (clause_is_true v ls) h

pub yes-true : (v : ℕ → Bool) (var : ℕ) → v var ≡ true → is_true v (yes var) ≡ true
unfolding is_true
yes-true v var h = h

pub no-true : (v : ℕ → Bool) (var : ℕ) → v var ≡ false → is_true v (no var) ≡ true
unfolding is_true
no-true v var h = not_from_false (v var) h

-- a literal that asks for a value of its variable
pub asks-true : (v : ℕ → Bool) (var : ℕ) (on : Bool) → v var ≡ on → is_true v (record { var = var; negated = not on }) ≡ true
unfolding is_true
asks-true v var true h = h
asks-true v var false h = not_from_false (v var) h

-- a clause with a literal for each number from a on has a true one
pub some_true : (v : ℕ → Bool) (f : ℕ → Literal) (a n i : ℕ) → i < n → is_true v (f (a + i)) ≡ true → IsMet v (map f (range_with_len a n))
some_true v f a zero i below h = absurd (omega arith)
some_true v f a (suc n) zero below h =
    let e : a + 0 ≡ a = omega arith in
    one_true v (f a) (map f (range_with_len (a + 1) n)) (subst (λ j. is_true v (f j) ≡ true) e h)
some_true v f a (suc n) (suc i) below h =
    let e : a + suc i ≡ a + 1 + i = omega arith in
    later_true v (f a) (map f (range_with_len (a + 1) n)) (some_true v f (a + 1) n i (omega arith) (subst (λ j. is_true v (f j) ≡ true) e h))
