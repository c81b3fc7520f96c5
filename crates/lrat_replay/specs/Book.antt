-- Replay of written steps: what each line is refused for, and what stands after it.
use Rattle.std.specs.Prelude.{◌≡◌, ℕ, ◌+◌, ◌==◌, nat_lt, Bool, true, false, cond, not, ◌||◌, List, [], ◌∷◌, ◌++◌, ℤ, pos, negsuc, None, Some, is_some, length}
use Rattle.std.specs.declared.option.Option.{Option}
use Rattle.std.specs.FinSet as set
use Rattle.std.specs.Ordering.{nat_cmp}
use Rattle.clause_core.specs.Literal.{Literal, flip, has}
use Rattle.clause_core.specs.Formula.{Formula}
use Rattle.lrat_replay.specs.Status.{Known, status, with_literal}
use Rattle.lrat_replay.specs.declared.status.Status.TheVariants.{Satisfied, Unresolved, Forces, Conflict}
use Rattle.lrat_replay.specs.declared.line.LineKind.{LineKind}
use Rattle.lrat_replay.specs.declared.line.LineKind.TheVariants.{Add, Delete}
use Rattle.lrat_replay.specs.declared.fault.StepFault.{StepFault}
use Rattle.lrat_replay.specs.declared.fault.StepFault.TheVariants.{Order, Unknown, Loose, NoConflict, Rat, Tautology, Variable}
use Rattle.lrat_replay.specs.declared.fault.StepFault.TheVariants as faults

-- a clause with its identifier
pub record Numbered : Type 0 where
  pub id : ℕ
  pub clause : List Literal

-- a formula, the steps that were accepted after it, and the identifiers of the clauses that were deleted
pub record Book : Type 0 where
  pub formula : Formula
  pub steps : List Numbered
  pub deleted : set.FinSet nat_cmp

-- clauses with identifiers that count up
abbrev pub numbered : ℕ → List (List Literal) → List Numbered
numbered n [] = []
numbered n (clause ∷ clauses) = record { id = n; clause = clause } ∷ numbered (n + 1) clauses

-- the clauses of the formula, numbered from 1, and those of the steps, deleted ones too
abbrev pub all_of : Book → List Numbered
all_of book = numbered 1 book.formula.clauses ++ book.steps

abbrev pub find : List Numbered → ℕ → Option (List Literal)
find [] id = None
find (entry ∷ entries) id = cond (entry.id == id) (Some entry.clause) (find entries id)

-- the live clause of an identifier
abbrev pub live : Book → ℕ → Option (List Literal)
live book id = cond (set.contains book.deleted id) None (find (all_of book) id)

abbrev pub last_of : ℕ → List Numbered → ℕ
last_of n [] = n
last_of n (step ∷ steps) = last_of step.id steps

-- the largest identifier so far, that of a deleted clause too
abbrev pub last_id : Book → ℕ
last_id book = last_of (length book.formula.clauses) book.steps

-- what a list of hints comes to
pub data Outcome : Type 0 where
  Accepted : Outcome
  Refused : StepFault → Outcome
  Unfinished : Known → Outcome

-- the literals that a denied clause makes true
abbrev pub denied : List Literal → Known
denied clause = λ l. has clause (flip l)

-- hints one after the other: each has to name a live clause that forces a literal, or that clashes, which ends it
abbrev pub run : (ℕ → Option (List Literal)) → Known → List ℤ → Outcome
run at known [] = Unfinished known
run at known (negsuc n ∷ hints) = Refused Rat
run at known (pos id ∷ hints) = elim (at id) [
  | None ↦ Refused Unknown
  | Some clause ↦ elim (status known clause) [
    | Satisfied ↦ Refused faults.Satisfied
    | Unresolved ↦ Refused Loose
    | Forces l ↦ run at (with_literal known l) hints
    | Conflict ↦ Accepted
  ]
]

abbrev pub fault_of_outcome : Outcome → Option StepFault
fault_of_outcome Accepted = None
fault_of_outcome (Refused fault) = Some fault
fault_of_outcome (Unfinished known) = Some NoConflict

-- some literal has its complement in the clause
abbrev pub some_flip : List Literal → List Literal → Bool
some_flip clause [] = false
some_flip clause (l ∷ ls) = has clause (flip l) || some_flip clause ls

abbrev pub some_above : ℕ → List Literal → Bool
some_above vars [] = false
some_above vars (l ∷ ls) = nat_lt vars l.var || some_above vars ls

-- why an addition is refused, the first reason in this order
unfoldable pub addition_fault : Book → ℕ → List Literal → List ℤ → Option StepFault
addition_fault book id clause hints =
    cond (not (nat_lt (last_id book) id) || nat_lt 2147483647 id) (Some Order)
    (cond (some_above book.formula.vars clause) (Some Variable)
    (cond (some_flip clause clause) (Some Tautology)
    (fault_of_outcome (run (live book) (denied clause) hints))))

abbrev pub after_addition : Book → ℕ → List Literal → Book
after_addition book id clause = record { formula = book.formula; steps = book.steps ++ record { id = id; clause = clause } ∷ []; deleted = book.deleted }

abbrev pub is_live : Book → ℕ → Bool
is_live book id = is_some (live book id)

-- after the deletion of one clause
abbrev pub without : Book → ℕ → Book
without book id = record { formula = book.formula; steps = book.steps; deleted = set.insert book.deleted id }

-- why a deletion is refused, and what stands after one that is not
abbrev pub deletion_fault : Book → List ℤ → Option StepFault
deletion_fault book [] = None
deletion_fault book (negsuc n ∷ ids) = Some Unknown
deletion_fault book (pos id ∷ ids) = cond (is_live book id) (deletion_fault (without book id) ids) (Some Unknown)

abbrev pub after_deletion : Book → List ℤ → Book
after_deletion book [] = book
after_deletion book (negsuc n ∷ ids) = book
after_deletion book (pos id ∷ ids) = after_deletion (without book id) ids

-- why a written line is refused, and what stands after one that is not
abbrev pub line_fault : Book → LineKind → Option StepFault
line_fault book (Add step) = addition_fault book step.id step.clause step.hints
line_fault book (Delete ids) = deletion_fault book ids

abbrev pub after_line : Book → LineKind → Book
after_line book (Add step) = after_addition book step.id step.clause
after_line book (Delete ids) = after_deletion book ids

abbrev pub after_lines : Book → List LineKind → Book
after_lines book [] = book
after_lines book (line ∷ lines) = after_lines (after_line book line) lines

abbrev pub start : Formula → Book
start formula = record { formula = formula; steps = []; deleted = set.empty }

-- each line is accepted after those before it
abbrev pub Accepts : Book → List LineKind → Type 0
Accepts book [] = Unit {0}
Accepts book (line ∷ lines) = (line_fault book line ≡ None) × Accepts (after_line book line) lines

abbrev pub is_empty : List Literal → Bool
is_empty [] = true
is_empty (l ∷ ls) = false

-- an empty clause was accepted
abbrev pub some_empty : List Numbered → Bool
some_empty [] = false
some_empty (step ∷ steps) = is_empty step.clause || some_empty steps
