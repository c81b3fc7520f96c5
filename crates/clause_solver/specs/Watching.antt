-- For the crate's own proofs: what a search over watched literals keeps.
use Rattle.std.specs.Prelude.{◌≡◌, ◌⊎◌, ℕ, ◌+◌, ◌*◌, ◌<◌, ◌≤◌, ◌++◌, true, false, List, [], ◌∷◌, length, All, None, Some, slice_get}
use Rattle.std.specs.declared.option.Option.{Option}
use Rattle.clause_core.specs.Literal.{Literal, flip, has}
use Rattle.clause_core.specs.Formula.{IsOver}
use Rattle.lrat_replay.specs.Status.{Known, IsSatisfied, IsUnit}
use Rattle.clause_solver.specs.Trail.{known_by, oldest, before_last, has_decision, unassigned, AreFresh, IsVariableOf}
use Rattle.clause_solver.specs.Plain.{HaveReasons}
use Rattle.clause_solver.specs.Watch.{list_of, width_of, count, pair_at, IsEntry, StandsBelow, IsListed}
use Rattle.clause_solver.specs.declared.value.Value.{Value}
use Rattle.clause_solver.specs.declared.watch.Entry.{Entry}
use Rattle.clause_solver.specs.declared.watch.Pair.{Pair}
use Rattle.clause_solver.specs.declared.watch.Watches.{Watches}
use Rattle.clause_solver.specs.declared.work.Work.{Work}

-- the clause has no other literals
abbrev pub IsWhole : List Literal → Pair → Type 0
IsWhole clause pair = (l : Literal) → has clause l ≡ true → (pair.one ≡ l) ⊎ (pair.two ≡ l)

-- looked: the literals that were looked at since they came. Two different literals of the clause, and where one of them is false and was looked at some literal is true
pub record IsWatched (clause : List Literal) (pair : Pair) (looked known : Known) : Type 0 where
  pub one_in : has clause pair.one ≡ true
  pub two_in : has clause pair.two ≡ true
  pub apart : pair.one ≡ pair.two → ⊥
  pub whole : pair.is_whole ≡ true → IsWhole clause pair
  pub one : looked (flip pair.one) ≡ true → IsSatisfied known clause
  pub two : looked (flip pair.two) ≡ true → IsSatisfied known clause

-- a clause that watches no literals has a true one
abbrev pub HoldsOff : List Literal → Option Pair → Known → Known → Type 0
HoldsOff clause None looked known = IsSatisfied known clause
HoldsOff clause (Some pair) looked known = IsWatched clause pair looked known

abbrev pub HeldOffBefore : List Literal → Option Pair → Known → Option ℕ → Type 0
HeldOffBefore clause pair known None = HoldsOff clause pair known known
HeldOffBefore clause pair known (Some id) = Unit {0}

-- it is so at each decision, where all values were looked at, so it is so after a backjump to one
abbrev pub HeldOffAtDecisions : List Literal → Option Pair → List Value → Type 0
HeldOffAtDecisions clause pair [] = Unit {0}
HeldOffAtDecisions clause pair (e ∷ older) = HeldOffBefore clause pair (known_by older) e.reason × HeldOffAtDecisions clause pair older

abbrev pub IsGuarded : List Literal → Option Pair → ℕ → List Value → Type 0
IsGuarded clause pair looked values = HoldsOff clause pair (known_by (oldest looked values)) (known_by values) × HeldOffAtDecisions clause pair values

-- the blocker of an entry is a literal of its clause
pub record IsBlocked (clauses : List (List Literal)) (entry : Entry) : Type 0 where
  pub clause : List Literal
  pub found : slice_get clauses entry.place ≡ Some clause
  pub is_in : has clause entry.blocker ≡ true

pub record IsWatching (clauses : List (List Literal)) (values : List Value) (looked : ℕ) (watches : Watches) : Type 0 where
  -- each clause stands in the lists of the literals that it watches
  pub one : (k : ℕ) (pair : Pair) → pair_at watches k ≡ Some pair → IsListed watches pair.one k
  pub two : (k : ℕ) (pair : Pair) → pair_at watches k ≡ Some pair → IsListed watches pair.two k
  pub blocked : (entry : Entry) → IsEntry watches entry → IsBlocked clauses entry
  pub guarded : (k : ℕ) (clause : List Literal) → k < count watches → slice_get clauses k ≡ Some clause → IsGuarded clause (pair_at watches k) looked values
  pub within : looked ≤ length values
  pub counted : count watches ≤ length clauses
  -- until each clause is settled nothing is decided or looked at
  pub early : count watches < length clauses → (has_decision values ≡ false) × (looked ≡ 0)

pub record IsWorking (work : Work) : Type 0 where
  pub over : All (IsOver work.trail.vars) work.clauses
  pub wide : 2 * work.trail.vars + 2 ≤ width_of work.watches
  pub fresh : AreFresh work.trail.values
  pub reasons : HaveReasons work.clauses work.trail.values
  pub watching : IsWatching work.clauses work.trail.values work.looked work.watches

-- before the newest decision the first two literals of the clause, different ones, were not false
pub record HasSecond (values : List Value) (clause : List Literal) (first : Literal) : Type 0 where
  pub two : Literal
  pub at : slice_get clause 1 ≡ Some two
  pub apart : first ≡ two → ⊥
  pub first_open : known_by (before_last values) (flip first) ≡ false
  pub two_open : known_by (before_last values) (flip two) ≡ false

-- each clause is settled, and all values were looked at
pub record IsQuiet (work : Work) : Type 0 where
  pub settled : length work.clauses ≤ count work.watches
  pub looked : length work.trail.values ≤ work.looked

-- a clause was learned, the last one, and its literals but the first are false; nothing else is left to settle
pub record IsLearning (work : Work) (clause : List Literal) : Type 0 where
  pub before : List (List Literal)
  pub clauses : work.clauses ≡ before ++ clause ∷ []
  pub over : All (IsOver work.trail.vars) work.clauses
  pub wide : 2 * work.trail.vars + 2 ≤ width_of work.watches
  pub fresh : AreFresh work.trail.values
  pub reasons : HaveReasons work.clauses work.trail.values
  pub watching : IsWatching before work.trail.values work.looked work.watches
  pub settled : length before ≤ count work.watches
  pub first : Literal
  pub first_at : slice_get clause 0 ≡ Some first
  pub unit : IsUnit (known_by work.trail.values) clause first
  pub second : ((length clause ≡ 1) × (has_decision work.trail.values ≡ false)) ⊎ HasSecond work.trail.values clause first

-- more values, and nothing else but watches and what was looked at
pub record HasAdvanced (old new : Work) : Type 0 where
  pub clauses : new.clauses ≡ old.clauses
  pub seen : new.seen ≡ old.seen
  pub vars : new.trail.vars ≡ old.trail.vars
  pub front : (n : ℕ) → n ≤ length old.trail.values → oldest n new.trail.values ≡ oldest n old.trail.values
  pub longer : length old.trail.values ≤ length new.trail.values
  pub grown : unassigned new.trail + length new.trail.values ≡ unassigned old.trail + length old.trail.values

-- a literal became false: each clause that watches it is satisfied, or stands in the part of its list that was not visited
pub record IsVisiting (work : Work) (lost : Literal) (index : ℕ) : Type 0 where
  pub working : IsWorking work
  pub settled : length work.clauses ≤ count work.watches
  pub is_false : known_by work.trail.values (flip lost) ≡ true
  pub variable : IsVariableOf work.trail.vars lost
  pub inside : index ≤ length (list_of work.watches lost)
  pub waits : (k : ℕ) (clause : List Literal) (pair : Pair) → slice_get work.clauses k ≡ Some clause → pair_at work.watches k ≡ Some pair → (pair.one ≡ lost) ⊎ (pair.two ≡ lost)
      → IsSatisfied (known_by work.trail.values) clause ⊎ StandsBelow (list_of work.watches lost) index k
