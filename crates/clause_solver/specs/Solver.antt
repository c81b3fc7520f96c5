-- What callers see of a solver, and what it answers.
use Rattle.std.specs.Prelude.{◌≡◌, ℕ, false, Ok, Err}
use Rattle.std.specs.declared.result.Result.{Result}
use Rattle.lrat_replay.specs.Book.{start}
use Rattle.clause_core.specs.Formula.{HasNoSolution}
use Rattle.lrat_replay.specs.Learned.{EndsEmpty}
use Rattle.clause_solver.specs.declared.verdict.Verdict.{Verdict}
use Rattle.clause_solver.specs.declared.verdict.Verdict.TheVariants as verdicts
use Rattle.clause_solver.specs.declared.verdict.SolveFault.{SolveFault}
use Rattle.clause_solver.specs.declared.verdict.SolveFault.TheVariants as faults
use Rattle.clause_solver.specs.declared.verdict.Stage.{Stage}
use Rattle.clause_solver.specs.declared.verdict.Stage.TheVariants.{Open, Satisfied, Refuted, Failed}
use Rattle.clause_solver.specs.Search.{Moment, IsReady, Goes, HasModel, LearnsNew}

-- a solver: its ledger, and where it stands
pub record SolverState (X : Type 0) : Type 0 where
  pub ledger : X
  pub stage : Stage

-- where a solver stands after an answer
abbrev pub stage_after : Result Verdict SolveFault → Stage
stage_after (Ok (verdicts.Satisfied values)) = Satisfied
stage_after (Ok verdicts.Refuted) = Refuted
stage_after (Ok verdicts.Spent) = Open
stage_after (Err fault) = Failed

-- what a call answers after one that found a valuation: another one, or that there was no memory for it
abbrev pub IsSatisfiedAgain : Result Verdict SolveFault → Type 0
IsSatisfiedAgain (Ok (verdicts.Satisfied values)) = Unit {0}
IsSatisfiedAgain (Ok verdicts.Refuted) = ⊥
IsSatisfiedAgain (Ok verdicts.Spent) = ⊥
IsSatisfiedAgain (Err faults.NoMemory) = Unit {0}
IsSatisfiedAgain (Err faults.Ledger) = ⊥
IsSatisfiedAgain (Err faults.Over) = ⊥

-- all steps so far were learned by the solver, and it can go on
pub record KeepsOpen (now : Moment) : Type 0 where
  pub ready : IsReady now.book now.broken now.clauses now.track now.width
  pub count : ℕ
  pub history : LearnsNew (start now.book.formula) now.book count

-- each variable has a value, and no clause is false
pub record KeepsModel (now : Moment) : Type 0 where
  pub goes : Goes now
  pub model : HasModel now

pub record KeepsRefuted (now : Moment) : Type 0 where
  pub whole : now.broken ≡ false
  pub ends : EndsEmpty now.book.steps
  pub no_solution : HasNoSolution now.book.formula

-- what a solver keeps, by where it stands
abbrev pub IsKept : Stage → Moment → Type 0
IsKept Open now = KeepsOpen now
IsKept Satisfied now = KeepsModel now
IsKept Refuted now = KeepsRefuted now
IsKept Failed now = Unit {0}
