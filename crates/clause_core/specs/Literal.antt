-- Literals and clauses, and what a valuation makes of them.
use Rattle.std.specs.Prelude.{◌≡◌, ◌↔◌, ℕ, ◌+◌, ◌*◌, ◌/◌, ◌%◌, ◌==◌, Bool, true, false, cond, not, ◌||◌, List, [], ◌∷◌, ℤ, pos, neg_ℤ}
use Rattle.std.specs.List.{Contains}
use Rattle.std.proofs.Common.{ap, ◌∙◌, arith, inl, inr}
use Rattle.std.proofs.lemmas.Bool.{cases_eq, eq-eqb, ne_eqb}

-- a variable, or its complement
pub record Literal : Type 0 where
  pub var : ℕ
  pub negated : Bool

-- the literal of the other sign
abbrev pub flip : Literal → Literal
flip l = record { var = l.var; negated = not l.negated }

-- as one number: even for a variable, odd for its complement
abbrev pub number : Literal → ℕ
number l = 2 * l.var + cond l.negated 1 0

-- as a signed number: below 0 for a complement
abbrev pub signed : Literal → ℤ
signed l = cond l.negated (neg_ℤ (pos l.var)) (pos l.var)

-- whether two literals are the same one
abbrev pub same : Literal → Literal → Bool
same a b = number a == number b

-- whether a clause, seen as a set, has this literal
abbrev pub has : List Literal → Literal → Bool
has [] l = false
has (x ∷ xs) l = same x l || has xs l

-- a literal is true where its variable is, its complement where the variable is false
unfoldable pub is_true : (ℕ → Bool) → Literal → Bool
is_true v l = cond l.negated (not (v l.var)) (v l.var)

-- some literal of the clause is true
abbrev pub clause_is_true : (ℕ → Bool) → List Literal → Bool
clause_is_true v [] = false
clause_is_true v (l ∷ ls) = is_true v l || clause_is_true v ls

-- the literal of a number
abbrev pub literal_of : ℕ → Literal
literal_of n = record { var = n / 2; negated = n % 2 == 1 }

pub number-literal_of : (n : ℕ) → number (literal_of n) ≡ n
number-literal_of n = elim (cases_eq (n % 2) 1) [
  | inl odd ↦ ap (λ b. 2 * (n / 2) + cond b 1 0) (eq-eqb (n % 2) 1 odd) ∙ omega arith
  | inr even ↦ ap (λ b. 2 * (n / 2) + cond b 1 0) (ne_eqb (n % 2) 1 even) ∙ omega arith
]

-- a literal is its variable and its sign: two are the same, by their numbers, exactly where these are
abbrev pub IsByVariableAndSign : Type 0
IsByVariableAndSign = (a b : Literal) → (same a b ≡ true) ↔ ((a.var ≡ b.var) × (a.negated ≡ b.negated))

-- a clause has exactly the literals of its list
abbrev pub HasItsLiterals : Type 0
HasItsLiterals = (clause : List Literal) (l : Literal) → (has clause l ≡ true) ↔ Contains clause l
