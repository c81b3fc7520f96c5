-- Formulas, and the valuations that satisfy them.
use Rattle.std.specs.Prelude.{◌≡◌, ℕ, ◌-◌, ◌≤◌, ◌<◌, ◌^◌, Bool, true, false, List, All, length, slice_index_or}
use Rattle.std.specs.List.{Contains}
use Rattle.clause_core.specs.Literal.{Literal, clause_is_true}

-- a number of variables and a list of clauses
pub record Formula : Type 0 where
  pub vars : ℕ
  pub clauses : List (List Literal)

-- each variable of the clause is from 1 to this one
abbrev pub IsOver : ℕ → List Literal → Type 0
IsOver vars clause = All (λ l. (1 ≤ l.var) × (l.var ≤ vars)) clause

abbrev pub most_clauses : ℕ
most_clauses = 1073741824

-- what is true of every formula
pub record IsFormula (f : Formula) : Type 0 where
  pub few_variables : f.vars < 2 ^ 31
  pub few_clauses : length f.clauses ≤ most_clauses
  pub over : All (IsOver f.vars) f.clauses

-- each clause has a true literal
abbrev pub Satisfies : (ℕ → Bool) → Formula → Type 0
Satisfies v f = (clause : List Literal) → Contains f.clauses clause → clause_is_true v clause ≡ true

-- no truth values of the variables make every clause true
abbrev pub HasNoSolution : Formula → Type 0
HasNoSolution f = (v : ℕ → Bool) → Satisfies v f → ⊥

-- the truth value that a valuation gives a variable: the first value is that of variable 1
abbrev pub value_in : List Bool → ℕ → Bool
value_in values var = slice_index_or values (var - 1) false

-- the valuation has a value for each variable, and each clause has a true literal
pub record IsSatisfiedBy (values : List Bool) (f : Formula) : Type 0 where
  pub wide : f.vars ≤ length values
  pub satisfies : Satisfies (value_in values) f
