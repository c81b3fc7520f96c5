-- For the crate's own proofs: what the analysis of a conflict keeps, value by value from the newest.
use Rattle.std.specs.Prelude.{◌≡◌, ◌⊎◌, ℕ, ◌+◌, ◌<◌, ◌≤◌, true, false, List, [], ◌∷◌, length, Some, ℤ, slice_get}
use Rattle.std.specs.declared.option.Option.{Option}
use Rattle.clause_core.specs.Literal.{Literal, flip, has}
use Rattle.lrat_replay.specs.Status.{Known}
use Rattle.lrat_replay.specs.Book.{run, Accepted}
use Rattle.clause_solver.specs.Trail.{known_by, IsFresh, oldest}
use Rattle.clause_solver.specs.declared.value.Value.{Value}

-- the hints are accepted wherever these are known: the literals that were seen and have an older value, and those that the clause denies; and nothing else but older values
pub record IsReduced (at : ℕ → Option (List Literal)) (all : Known) (older : List Value) (seen : Known) (clause : List Literal) (hints : List ℤ) : Type 0 where
  pub is_false : (l : Literal) → has clause l ≡ true → all (flip l) ≡ true
  pub apart : (l : Literal) → has clause l ≡ true → known_by older (flip l) ≡ false
  pub accepts : (known : Known) → ((x : Literal) → known x ≡ true → (known_by older x ≡ true) ⊎ (has clause (flip x) ≡ true)) →
      ((x : Literal) → seen x ≡ true → known_by older x ≡ true → known x ≡ true) → ((l : Literal) → has clause l ≡ true → known (flip l) ≡ true) → run at known hints ≡ Accepted

-- before: the values before the last decision. Some value of the last level among these was seen
pub record IsSomeSeen (before : Known) (now : List Value) (seen : Known) : Type 0 where
  pub lit : Literal
  pub is_seen : seen lit ≡ true
  pub is_now : known_by now lit ≡ true
  pub is_late : before lit ≡ false

-- the value at a place, if it is one of the last level before another place, was seen
abbrev pub IsWitness : List Value → Known → ℕ → ℕ → ℕ → Type 0
IsWitness values seen start place known = start ≤ known → known < place → (value : Value) → oldest (known + 1) values ≡ value ∷ oldest known values → seen value.lit ≡ true

-- none was
abbrev pub IsNoneSeen : Known → List Value → Known → Type 0
IsNoneSeen before now seen = (x : Literal) → seen x ≡ true → known_by now x ≡ true → before x ≡ true

-- the one literal is found: it has no value before the last decision, the others are false there, and no other value of the last level was seen
pub record IsFound (before : Known) (now : List Value) (seen : Known) (clause : List Literal) : Type 0 where
  pub lit : Literal
  pub is_in : has clause lit ≡ true
  pub fresh : IsFresh before lit
  pub others : (l : Literal) → has clause l ≡ true → (lit ≡ l) ⊎ (before (flip l) ≡ true)
  pub none : IsNoneSeen before now seen

abbrev pub IsSought : Known → List Value → Known → List Literal → Type 0
IsSought before now seen clause = ((clause ≡ []) × IsSomeSeen before now seen) ⊎ IsFound before now seen clause

-- a value is resolved on its reason: it is older than the last decision, or another value of the last level was seen
pub record MayResolve (before : Known) (older : List Value) (seen : Known) (value : Value) (id : ℕ) : Type 0 where
  pub reason : value.reason ≡ Some id
  pub place : IsSomeSeen before older seen ⊎ (before value.lit ≡ true)

-- the complement of a value is kept: it is older than the last decision, or the only one of the last level that was seen
abbrev pub MayKeep : Known → List Value → Known → Literal → Type 0
MayKeep before older seen l = (IsFresh before l × IsNoneSeen before older seen) ⊎ (before l ≡ true)

-- the clause of a conflict: one literal of it has no value before the last decision, and the others are false there
pub record IsAsserting (before : Known) (clause : List Literal) : Type 0 where
  pub lit : Literal
  pub is_in : has clause lit ≡ true
  pub unknown : before lit ≡ false
  pub others : (l : Literal) → has clause l ≡ true → (lit ≡ l) ⊎ (before (flip l) ≡ true)

-- the first two literals of the clause, different ones, became false with the newest of so many values, or later
pub record IsSecond (values : List Value) (clause : List Literal) (after : ℕ) : Type 0 where
  pub place : ℕ
  pub after_is : after ≡ place + 1
  pub within : place < length values
  pub one : Literal
  pub two : Literal
  pub one_at : slice_get clause 0 ≡ Some one
  pub two_at : slice_get clause 1 ≡ Some two
  pub one_in : has clause one ≡ true
  pub two_in : has clause two ≡ true
  pub apart : one ≡ two → ⊥
  pub one_unknown : known_by (oldest place values) (flip one) ≡ false
  pub two_unknown : known_by (oldest place values) (flip two) ≡ false

-- how many values are left at least when the clause is learned
abbrev pub IsAnchor : List Value → List Literal → ℕ → Type 0
IsAnchor values clause after = ((length clause ≤ 1) × (after ≡ 0)) ⊎ IsSecond values clause after

-- the first literal of the clause has no value before the last decision, which so many values came before; the others are false among the values that are left
pub record IsLed (values : List Value) (start : ℕ) (clause : List Literal) (after : ℕ) : Type 0 where
  pub first : Literal
  pub at : slice_get clause 0 ≡ Some first
  pub fresh : IsFresh (known_by (oldest start values)) first
  pub within : after ≤ start
  pub others : (l : Literal) → has clause l ≡ true → (first ≡ l) ⊎ (known_by (oldest after values) (flip l) ≡ true)
