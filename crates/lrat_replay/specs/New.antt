-- Steps that are new, and steps that tell propagation something.
use Rattle.std.specs.Prelude.{◌≡◌, ℕ, ◌+◌, true, false, not, ◌&&◌, List, [], ◌∷◌, ℤ, None, length}
use Rattle.std.specs.List.{Contains}
use Rattle.clause_core.specs.Literal.{Literal, flip, same, has}
use Rattle.clause_core.specs.Formula.{Formula}
use Rattle.lrat_replay.specs.Status.{Known}
use Rattle.lrat_replay.specs.Book.{Book, Numbered, all_of, last_id, live, run, Accepted, Unfinished, addition_fault, after_addition, start}

-- each literal of the one clause is in the other
abbrev pub IsSubset : List Literal → List Literal → Type 0
IsSubset a b = (l : Literal) → has a l ≡ true → has b l ≡ true

-- the clause is not empty, and no clause of the formula or of a step so far, deleted ones too, is a subset of it
pub record IsNew (book : Book) (clause : List Literal) : Type 0 where
  pub some : clause ≡ [] → ⊥
  pub none_within : (step : Numbered) → Contains (all_of book) step → IsSubset step.clause clause → ⊥

-- the literals of the clause are made false, but for this one
abbrev pub denied_but : List Literal → Literal → Known
denied_but clause l = λ x. has clause (flip x) && not (same (flip x) l)

-- no hints, from the other literals made false, are accepted or make this one true
pub record IsFree (book : Book) (clause : List Literal) (l : Literal) : Type 0 where
  pub not_accepted : (hints : List ℤ) → run (live book) (denied_but clause l) hints ≡ Accepted → ⊥
  pub not_true : (hints : List ℤ) (known : Known) → run (live book) (denied_but clause l) hints ≡ Unfinished known → known l ≡ false

-- some literal of the clause is free: with the clause propagation goes further
pub record TellsPropagation (book : Book) (clause : List Literal) : Type 0 where
  pub lit : Literal
  pub is_in : has clause lit ≡ true
  pub is_free : IsFree book clause lit

-- no hints make replay accept the empty clause next
abbrev pub IsUndecided : Book → Type 0
IsUndecided book = (hints : List ℤ) → addition_fault book (last_id book + 1) [] hints ≡ None → ⊥

-- with some hints, each step is accepted after those before it
abbrev pub AreAccepted : Book → List Numbered → Type 0
AreAccepted book [] = Unit {0}
AreAccepted book (step ∷ steps) = ((hints : List ℤ) × (addition_fault book step.id step.clause hints ≡ None)) × AreAccepted (after_addition book step.id step.clause) steps

-- each step is new after those before it
abbrev pub AreNew : Book → List Numbered → Type 0
AreNew book [] = Unit {0}
AreNew book (step ∷ steps) = IsNew book step.clause × AreNew (after_addition book step.id step.clause) steps

-- each step tells propagation something after those before it
abbrev pub AllTellPropagation : Book → List Numbered → Type 0
AllTellPropagation book [] = Unit {0}
AllTellPropagation book (step ∷ steps) = TellsPropagation book step.clause × AllTellPropagation (after_addition book step.id step.clause) steps

-- exactly so many steps, each accepted and new after those before it
pub record Spent (formula : Formula) (steps : List Numbered) (budget : ℕ) : Type 0 where
  pub count : length steps ≡ budget
  pub accepted : AreAccepted (start formula) steps
  pub are_new : AreNew (start formula) steps

-- each step told propagation something, and propagation after them finds no conflict
pub record IsOpen (formula : Formula) (steps : List Numbered) : Type 0 where
  pub tell : AllTellPropagation (start formula) steps
  pub undecided : IsUndecided (record { formula = formula; steps = steps; deleted = (start formula).deleted })
