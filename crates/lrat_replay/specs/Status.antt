-- What a clause comes to where some literals are known to be true: it is satisfied, unresolved, unit, or in conflict.
use Rattle.std.specs.Prelude.{◌≡◌, ◌⊎◌, Bool, true, false, not, cond, ◌&&◌, ◌||◌, List, [], ◌∷◌}
use Rattle.lrat_replay.specs.declared.status.Status.{Status}
use Rattle.lrat_replay.specs.declared.status.Status.TheVariants.{Satisfied, Unresolved, Forces, Conflict}
use Rattle.clause_core.specs.Literal.{Literal, flip, same, has}

-- the literals that are known to be true
abbrev pub Known : Type 0
Known = Literal → Bool

abbrev pub nothing : Known
nothing l = false

-- one more literal
abbrev pub with_literal : Known → Literal → Known
with_literal known l = λ x. same l x || known x

-- one literal less
abbrev pub without_literal : Known → Literal → Known
without_literal known l = λ x. not (same l x) && known x

abbrev pub some_known : Known → List Literal → Bool
some_known known [] = false
some_known known (l ∷ ls) = known l || some_known known ls

-- the literals that have no value
abbrev pub without_value : Known → List Literal → List Literal
without_value known [] = []
without_value known (l ∷ ls) = cond (known l || known (flip l)) (without_value known ls) (l ∷ without_value known ls)

abbrev pub all_same : Literal → List Literal → Bool
all_same l [] = true
all_same l (x ∷ xs) = same l x && all_same l xs

abbrev pub status_by : List Literal → Status
status_by [] = Conflict
status_by (l ∷ ls) = cond (all_same l ls) (Forces l) Unresolved

unfoldable pub status : Known → List Literal → Status
status known clause = cond (some_known known clause) Satisfied (status_by (without_value known clause))

-- a literal of the clause is true
pub record IsSatisfied (known : Known) (clause : List Literal) : Type 0 where
  pub lit : Literal
  pub is_in : has clause lit ≡ true
  pub is_known : known lit ≡ true

-- no literal of the clause is true, and two different ones have no value
pub record IsUnresolved (known : Known) (clause : List Literal) : Type 0 where
  pub none : (l : Literal) → has clause l ≡ true → known l ≡ false
  pub one : Literal
  pub two : Literal
  pub one_in : has clause one ≡ true
  pub two_in : has clause two ≡ true
  pub apart : one ≡ two → ⊥
  pub one_unknown : known (flip one) ≡ false
  pub two_unknown : known (flip two) ≡ false

-- each literal of the clause is false, but for this one, which has no value
pub record IsUnit (known : Known) (clause : List Literal) (u : Literal) : Type 0 where
  pub is_in : has clause u ≡ true
  pub unknown : known u ≡ false
  pub flip_unknown : known (flip u) ≡ false
  pub others : (l : Literal) → has clause l ≡ true → (u ≡ l) ⊎ (known (flip l) ≡ true)
  pub none : (l : Literal) → has clause l ≡ true → known l ≡ false

-- each literal of the clause is false, and none is true
pub record IsConflict (known : Known) (clause : List Literal) : Type 0 where
  pub all : (l : Literal) → has clause l ≡ true → known (flip l) ≡ true
  pub none : (l : Literal) → has clause l ≡ true → known l ≡ false

-- two different literals of the clause are not false
pub record HasTwoNotFalse (known : Known) (clause : List Literal) : Type 0 where
  pub one : Literal
  pub two : Literal
  pub one_in : has clause one ≡ true
  pub two_in : has clause two ≡ true
  pub apart : one ≡ two → ⊥
  pub one_unknown : known (flip one) ≡ false
  pub two_unknown : known (flip two) ≡ false

-- the clause is neither unit nor in conflict: a literal is true, or two different ones are not false
abbrev pub Rests : Known → List Literal → Type 0
Rests known clause = IsSatisfied known clause ⊎ HasTwoNotFalse known clause
