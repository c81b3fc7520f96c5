-- For the crate's own proofs: values in the order in which they came, the newest first.
use Rattle.std.specs.Prelude.{◌≡◌, ◌⊎◌, ℕ, ◌+◌, ◌-◌, ◌*◌, ◌<◌, ◌≤◌, drop, slice_index_or, Bool, true, false, cond, ◌||◌, List, [], ◌∷◌, length, None, Some}
use Rattle.std.proofs.Common.{zero, suc}
use Rattle.clause_core.specs.Literal.{Literal, flip, same, literal_of}
use Rattle.lrat_replay.specs.Status.{Known}
use Rattle.clause_solver.specs.declared.value.Value.{Value}

abbrev pub known_by : List Value → Known
known_by [] l = false
known_by (e ∷ older) l = same e.lit l || known_by older l

-- neither the literal nor its complement has a value
pub record IsFresh (known : Known) (l : Literal) : Type 0 where
  pub unknown : known l ≡ false
  pub flip_unknown : known (flip l) ≡ false

abbrev pub AreFresh : List Value → Type 0
AreFresh [] = Unit {0}
AreFresh (e ∷ older) = IsFresh (known_by older) e.lit × AreFresh older

-- the variable is one of the first so many
pub record IsVariableOf (vars : ℕ) (l : Literal) : Type 0 where
  pub counted : 1 ≤ l.var
  pub within : l.var ≤ vars

abbrev pub AreOver : ℕ → List Value → Type 0
AreOver vars [] = Unit {0}
AreOver vars (e ∷ older) = IsVariableOf vars e.lit × AreOver vars older

-- the oldest n values
abbrev pub oldest : ℕ → List Value → List Value
oldest n values = drop (length values - n) values

-- the values before the newest decision
abbrev pub before_last : List Value → List Value
before_last [] = []
before_last (e ∷ older) = elim (e.reason) [ None ↦ older | Some id ↦ before_last older ]

-- some value was decided
abbrev pub has_decision : List Value → Bool
has_decision [] = false
has_decision (e ∷ older) = elim (e.reason) [ None ↦ true | Some id ↦ has_decision older ]

-- the value at a place, counted from the oldest, was decided
pub record IsDecidedAt (values : List Value) (place : ℕ) : Type 0 where
  pub value : Value
  pub within : place < length values
  pub is : oldest (place + 1) values ≡ value ∷ oldest place values
  pub decided : value.reason ≡ None

-- the value at a place, counted from the oldest, is this literal
pub record StandsAt (values : List Value) (l : Literal) (place : ℕ) : Type 0 where
  pub value : Value
  pub within : place < length values
  pub is : oldest (place + 1) values ≡ value ∷ oldest place values
  pub lit_is : value.lit ≡ l

-- how many literals of numbers below n are not known
abbrev pub free : Known → ℕ → ℕ
free known zero = 0
free known (suc n) = cond (known (literal_of n)) 0 1 + free known n

-- how many variables there are, and the values
pub record Track : Type 0 where
  pub vars : ℕ
  pub values : List Value

-- how many literals of the variables are not known
abbrev pub unassigned : Track → ℕ
unassigned track = free (known_by track.values) (2 * track.vars + 2)

-- each variable has a value
abbrev pub AreValued : ℕ → Known → Type 0
AreValued vars known = (l : Literal) → IsVariableOf vars l → (known l ≡ true) ⊎ (known (flip l) ≡ true)

-- one more variable has a value, which was decided
pub record IsDecided (old new : Track) : Type 0 where
  pub lit : Literal
  pub new_is : new ≡ record { vars = old.vars; values = record { lit = lit; reason = None } ∷ old.values }
  pub variable : IsVariableOf old.vars lit
  pub fresh : IsFresh (known_by old.values) lit

-- the first variables are true in the list of values where the literal of them is known
abbrev pub HasValues : ℕ → Known → List Bool → Type 0
HasValues vars known values = (k : ℕ) → k < vars → slice_index_or values k false ≡ known (record { var = k + 1; negated = false })
