-- How the formula of a question is put together.
use Rattle.std.specs.Prelude.{◌≡◌, ℕ, ◌+◌, ◌*◌, ◌≤◌, Bool, not, List, [], ◌∷◌, ◌++◌, length, map, IfSome}
use Rattle.cube_core.specs.Function.{IsFunction}
use Rattle.clause_core.specs.Literal.{Literal}
use Rattle.clause_core.specs.Formula.{Formula, most_clauses}
use Rattle.lattice_grid.specs.declared.control.Control.{Control}
use Rattle.lattice_grid.specs.Control.{value_of}
use Rattle.lattice_grid.specs.Rectangle.{IsSize}
use Rattle.reach_encoding.specs.Encoding.{Question, controls, asked, asked_at, below, cells_of, many_controls, many_asked, choice, mark, control_of, yes, no, is_valued}

-- how many variables the formula has
abbrev pub vars_of : Question → ℕ
vars_of q = cells_of q * (many_controls q + 2 * many_asked q)

-- a literal of one of so many variables
pub record IsOneOf (vars : ℕ) (l : Literal) : Type 0 where
  pub counted : 1 ≤ l.var
  pub within : l.var ≤ vars

-- what is true of every question that is encoded
pub record IsAsked (q : Question) : Type 0 where
  pub function : IsFunction q.function
  pub size : IsSize q.size
  pub few : q.size.rows * q.size.cols ≤ 32768
  pub array : IfSome q.array (λ a. a.size ≡ q.size)

-- such a question, the assignments that it asks about, and the controls that may stand
pub record IsAsking (q : Question) (listed : List ℕ) (allowed : List Control) : Type 0 where
  pub question : IsAsked q
  pub listing : listed ≡ asked q
  pub allowing : allowed ≡ controls q

-- the new formula is the old one with these clauses at the end
pub record Adds (old new : Formula) (added : List (List Literal)) : Type 0 where
  pub vars : new.vars ≡ old.vars
  pub clauses : new.clauses ≡ old.clauses ++ added

-- a formula over the question's variables, with room for these clauses
pub record HasRoom (q : Question) (f : Formula) (added : List (List Literal)) : Type 0 where
  pub vars : f.vars ≡ vars_of q
  pub room : length f.clauses + length added ≤ most_clauses

-- cells with equal distances: the first, how far the next is, and how many there are
abbrev pub cells_along : ℕ → ℕ → ℕ → List ℕ
cells_along first step count = map (λ i. first + i * step) (below count)

-- the clauses, each by itself
abbrev pub choice_clause : Question → ℕ → List Literal
choice_clause q p = map (λ c. yes (choice q p c)) (below (many_controls q))

abbrev pub value_clause : Question → ℕ → ℕ → ℕ → List Literal
value_clause q p c t = no (choice q p c) ∷ is_valued q (value_of (control_of q c) (asked_at q t)) p t ∷ []

abbrev pub stuck_clause : Question → Bool → ℕ → ℕ → List Literal
stuck_clause q on p t = is_valued q on p t ∷ []

abbrev pub start_clause : Question → ℕ → Bool → ℕ → List Literal
start_clause q t through p = is_valued q (not through) p t ∷ yes (mark q p t) ∷ []

abbrev pub step_clause : Question → ℕ → Bool → ℕ → ℕ → List Literal
step_clause q t through p r = no (mark q p t) ∷ is_valued q (not through) r t ∷ yes (mark q r t) ∷ []

abbrev pub end_clause : Question → ℕ → ℕ → List Literal
end_clause q t p = no (mark q p t) ∷ []
