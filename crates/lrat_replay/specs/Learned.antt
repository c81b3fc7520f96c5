-- What a call adds to the steps of a ledger.
use Rattle.std.specs.Prelude.{◌≡◌, ℕ, ◌⊎◌, not, List, [], ◌∷◌, ◌++◌, count_by, length, None}
use Rattle.clause_core.specs.Formula.{Formula}
use Rattle.lrat_replay.specs.declared.line.Step.{Step}
use Rattle.lrat_replay.specs.Book.{Book, Numbered, addition_fault, after_addition, is_empty, start}
use Rattle.lrat_replay.specs.New.{IsNew, AreAccepted}

-- the book after these steps
abbrev pub after_steps : Book → List Numbered → Book
after_steps book [] = book
after_steps book (step ∷ steps) = after_steps (after_addition book step.id step.clause) steps

-- each step that is not empty is new after those before it
abbrev pub AreFresh : Book → List Numbered → Type 0
AreFresh book [] = Unit {0}
AreFresh book (step ∷ steps) = ((step.clause ≡ []) ⊎ IsNew book step.clause) × AreFresh (after_addition book step.id step.clause) steps

-- how many steps are not empty
abbrev pub count_full : List Numbered → ℕ
count_full steps = count_by (λ step. not (is_empty step.clause)) steps

-- these steps came to the ledger: each is accepted after those before it, and new where it is not empty
pub record Learns (old new : Book) (learned : List Numbered) : Type 0 where
  pub grown : new ≡ after_steps old learned
  pub accepted : AreAccepted old learned
  pub fresh : AreFresh old learned

-- the last step is the empty clause
pub record EndsEmpty (steps : List Numbered) : Type 0 where
  pub before : List Numbered
  pub id : ℕ
  pub whole : steps ≡ before ++ record { id = id; clause = [] } ∷ []

-- each written step is accepted by its own hints after those before it, and new
abbrev pub AreWrittenNew : Book → List Step → Type 0
AreWrittenNew book [] = Unit {0}
AreWrittenNew book (step ∷ steps) = (addition_fault book step.id step.clause step.hints ≡ None) × IsNew book step.clause × AreWrittenNew (after_addition book step.id step.clause) steps

-- exactly so many written steps, each accepted by its own hints and new after those before it
pub record SpentWritten (formula : Formula) (steps : List Step) (budget : ℕ) : Type 0 where
  pub count : length steps ≡ budget
  pub each : AreWrittenNew (start formula) steps

-- written steps without their hints
abbrev pub without_hints : List Step → List Numbered
without_hints [] = []
without_hints (step ∷ steps) = record { id = step.id; clause = step.clause } ∷ without_hints steps
