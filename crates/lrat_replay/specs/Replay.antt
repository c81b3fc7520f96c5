-- What is true of a replay, and what it answers.
use Rattle.std.specs.Prelude.{◌≡◌, ℕ, ◌+◌, ◌*◌, ◌≤◌, Bool, None, Some}
use Rattle.std.specs.declared.option.Option.{Option}
use Rattle.lrat_replay.specs.declared.fault.StepFault.{StepFault}
use Rattle.lrat_replay.specs.declared.fault.StepFault.TheVariants.{NoMemory}
use Rattle.lrat_replay.specs.Book.{Book, some_empty}
use Rattle.lrat_replay.specs.Laws.{IsReached}

-- what is true of the parts of a replay
pub record IsReplay (book : Book) (width : ℕ) (reached : Bool) : Type 0 where
  pub wide : 2 * book.formula.vars + 2 ≤ width
  pub reaches : reached ≡ some_empty book.steps
  pub history : IsReached book

-- the fault of a refused line is the one that the line is refused for; an accepted one fails for want of memory alone
abbrev pub IsFault : Option StepFault → StepFault → Type 0
IsFault None fault = fault ≡ NoMemory
IsFault (Some wanted) fault = fault ≡ wanted
