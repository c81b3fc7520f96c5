-- What replay shows, in words that do not speak of replay.
use Rattle.std.specs.Prelude.{◌≡◌, ℕ, Bool, true, List, []}
use Rattle.std.specs.List.{Contains}
use Rattle.clause_core.specs.Literal.{clause_is_true}
use Rattle.clause_core.specs.Formula.{Formula, Satisfies, HasNoSolution}
use Rattle.lrat_replay.specs.declared.line.Step.{Step}
use Rattle.lrat_replay.specs.declared.line.LineKind.{LineKind}
use Rattle.lrat_replay.specs.declared.line.LineKind.TheVariants.{Add}
use Rattle.lrat_replay.specs.Book.{Book, Accepts, after_lines, start}

-- the clause of each accepted addition is true under every valuation that satisfies the formula
abbrev pub IsSound : Type 0
IsSound = (formula : Formula) (lines : List LineKind) → Accepts (start formula) lines →
    (step : Step) → Contains lines (Add step) →
    (v : ℕ → Bool) → Satisfies v formula → clause_is_true v step.clause ≡ true

-- the lines are accepted, and one of them adds the empty clause
pub record Refutes (formula : Formula) (lines : List LineKind) : Type 0 where
  pub accepted : Accepts (start formula) lines
  pub step : Step
  pub reached : Contains lines (Add step)
  pub empty : step.clause ≡ []

-- a refuted formula has no solution, whoever wrote the lines
abbrev pub IsRefutationSound : Type 0
IsRefutationSound = (formula : Formula) (lines : List LineKind) → Refutes formula lines → HasNoSolution formula

-- some accepted lines lead from the formula to this book
pub record IsReached (book : Book) : Type 0 where
  pub lines : List LineKind
  pub accepted : Accepts (start book.formula) lines
  pub after : after_lines (start book.formula) lines ≡ book

-- some lines refute the formula
pub record IsRefuted (formula : Formula) : Type 0 where
  pub lines : List LineKind
  pub refutes : Refutes formula lines

-- some accepted lines lead from the formula to this book, and one of them adds the empty clause
pub record AddsEmpty (book : Book) : Type 0 where
  pub lines : List LineKind
  pub accepted : Accepts (start book.formula) lines
  pub after : after_lines (start book.formula) lines ≡ book
  pub step : Step
  pub among : Contains lines (Add step)
  pub empty : step.clause ≡ []
