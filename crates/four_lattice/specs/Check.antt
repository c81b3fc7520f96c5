-- When steps refute a formula line by line, and which line is the first that does not.
use Rattle.std.specs.Prelude.{◌≡◌, ℕ, ◌+◌, ◌==◌, Bool, List, ◌∷◌, ◌++◌, map, count_by, Some}
use Rattle.clause_core.specs.Formula.{Formula}
use Rattle.lrat_replay.specs.declared.line.Line.{Line}
use Rattle.lrat_replay.specs.declared.line.LineKind.{LineKind}
use Rattle.lrat_replay.specs.declared.fault.StepFault.{StepFault}
use Rattle.lrat_replay.specs.Book.{Book, Accepts, start, line_fault, after_lines, some_empty}

-- what the lines do, one after the other
abbrev pub kinds_of : List Line → List LineKind
kinds_of lines = map (λ line. line.what) lines

-- The lines before it are accepted, and this one is refused for the fault; it is the first that is refused.
pub record IsFirstFault (book : Book) (lines : List Line) (fault : StepFault) (number : ℕ) : Type 0 where
  pub before : List Line
  pub line : Line
  pub later : List Line
  pub whole : lines ≡ before ++ line ∷ later
  pub accepted : Accepts book (kinds_of before)
  pub refused : line_fault (after_lines book (kinds_of before)) line.what ≡ Some fault
  pub number_is : number ≡ line.number

-- All lines are accepted.
abbrev pub IsAccepted : Formula → List Line → Type 0
IsAccepted formula lines = Accepts (start formula) (kinds_of lines)

-- an accepted line adds the empty clause
abbrev pub adds_empty : Formula → List Line → Bool
adds_empty formula lines = some_empty (after_lines (start formula) (kinds_of lines)).steps

-- the number of the line on which a text ends
abbrev pub end_line : List ℕ → ℕ
end_line text = count_by (λ b. b == 10) text + 1
