-- For the crate's own proofs: lists of clauses by their first literals.
use Rattle.std.specs.Prelude.{◌≡◌, ℕ, ◌+◌, ◌*◌, ◌<◌, ◌≤◌, ◌++◌, Bool, List, [], ◌∷◌, length, slice_index_or}
use Rattle.std.specs.List.{Contains}
use Rattle.clause_core.specs.Literal.{Literal, number}
use Rattle.clause_core.specs.Formula.{Formula}
use Rattle.lrat_replay.specs.Status.{Known}
use Rattle.lrat_replay.specs.Subset.{AreKnown}
use Rattle.lrat_replay.specs.Store.{IsStore}

-- the number of a clause's list: that of its first literal, or 0 for the empty clause
abbrev pub lead : List Literal → ℕ
lead [] = 0
lead (l ∷ ls) = number l

-- the list of the clause at a place
abbrev pub lead_at : List (List Literal) → ℕ → ℕ
lead_at clauses k = lead (slice_index_or clauses k [])

-- the link leads to the last clause of a list below a place: it is 0 where there is none, else one more than the place of that clause
pub record IsLastBelow (clauses : List (List Literal)) (code end link : ℕ) : Type 0 where
  pub within : link ≤ end
  pub here : (k : ℕ) → link ≡ k + 1 → lead_at clauses k ≡ code
  pub none : (k : ℕ) → link ≤ k → k < end → lead_at clauses k ≡ code → ⊥

-- the first link of each list leads to its last clause, and the next one of each clause to the last one before it in its list
pub record AreListed (clauses : List (List Literal)) (first next : List ℕ) : Type 0 where
  pub many : length next ≡ length clauses
  pub begins : (code : ℕ) → code < length first → IsLastBelow clauses code (length clauses) (slice_index_or first code 0)
  pub follows : (k : ℕ) → k < length clauses → IsLastBelow clauses (lead_at clauses k) k (slice_index_or next k 0)

-- what is true of the parts of a store, with lists of its clauses
pub record IsListedStore (formula : Formula) (steps : List (List Literal)) (ids : List ℕ) (flags : List Bool) (first next : List ℕ) : Type 0 where
  pub store : IsStore formula steps ids flags
  pub listed : AreListed (formula.clauses ++ steps) first next
  pub wide : length first ≡ 2 * formula.vars + 2

-- no clause of a list has only known literals
abbrev pub NoneOf : Known → List (List Literal) → ℕ → Type 0
NoneOf known clauses code = (clause : List Literal) → Contains clauses clause → lead clause ≡ code → AreKnown known clause → ⊥
