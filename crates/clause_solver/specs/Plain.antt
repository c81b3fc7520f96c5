-- For the crate's own proofs: clauses by identifier, numbered from 1, and trails over them.
use Rattle.std.specs.Prelude.{◌≡◌, ℕ, ◌+◌, List, [], ◌∷◌, None, Some, slice_get}
use Rattle.std.proofs.Common.{zero, suc}
use Rattle.std.specs.declared.option.Option.{Option}
use Rattle.clause_core.specs.Literal.{Literal}
use Rattle.lrat_replay.specs.Status.{Known, Rests, IsUnit, IsConflict}
use Rattle.clause_solver.specs.Trail.{known_by}
use Rattle.clause_solver.specs.declared.value.Value.{Value}

-- the clause of an identifier
abbrev pub at_of : List (List Literal) → ℕ → Option (List Literal)
at_of clauses zero = None
at_of clauses (suc k) = slice_get clauses k

-- propagation is complete: no clause is unit or in conflict
abbrev pub AllRest : List (List Literal) → Known → Type 0
AllRest clauses known = (k : ℕ) (clause : List Literal) → slice_get clauses k ≡ Some clause → Rests known clause

-- the clause at this place is in conflict
pub record IsConflictAt (clauses : List (List Literal)) (known : Known) (place : ℕ) : Type 0 where
  pub clause : List Literal
  pub found : slice_get clauses place ≡ Some clause
  pub conflict : IsConflict known clause

-- the clause of this identifier forces the literal
pub record IsReason (clauses : List (List Literal)) (known : Known) (l : Literal) (id : ℕ) : Type 0 where
  pub place : ℕ
  pub clause : List Literal
  pub id_is : id ≡ place + 1
  pub found : slice_get clauses place ≡ Some clause
  pub unit : IsUnit known clause l

-- a decision was made after complete propagation; any other value was forced by the clause that is its reason
abbrev pub HasReason : List (List Literal) → Known → Literal → Option ℕ → Type 0
HasReason clauses known l None = AllRest clauses known
HasReason clauses known l (Some id) = IsReason clauses known l id

abbrev pub HaveReasons : List (List Literal) → List Value → Type 0
HaveReasons clauses [] = Unit {0}
HaveReasons clauses (e ∷ older) = HasReason clauses (known_by older) e.lit e.reason × HaveReasons clauses older
