-- What the calls of a writer and of a section say.
use Rattle.std.specs.Prelude.{◌≡◌, ◌≢◌, ℕ, ◌*◌, ◌≤◌, List, [], ◌++◌, ⊤, All, Bool, false}
use Rattle.std.specs.declared.option.Option.{Option}
use Rattle.wire_io.specs.Causes.{Rose}
use Rattle.wire_io.specs.Told.{Gains, GainsFront}
use Rattle.lrat_replay.specs.declared.line.Step.{Step}
use Rattle.journal_text.specs.Bounds.{IsWritten}
use Rattle.journal_text.specs.declared.fault.JournalFault.{JournalFault}
use Rattle.journal_text.specs.declared.fault.JournalFault.TheVariants.{Sink, NoMemory}
use Rattle.journal_text.specs.declared.target.Close.{Close}
use Rattle.journal_text.specs.declared.target.Target.{Target}
use Rattle.journal_text.specs.declared.target.Target.TheVariants.{Whole, Marked}
use Rattle.journal_text.specs.Text.{steps_text, close_text}

-- The call wrote these bytes: the sink gained them, and its count of faults stands.
pub record Wrote (got got' : Option (List ℕ)) (faults faults' : ℕ) (bytes : List ℕ) : Type 0 where
  pub gained : Gains got got' bytes
  pub still : faults' ≡ faults

-- The sink failed while these bytes were written: it gained a front of them, and its count of faults rose.
pub record WasCut (got got' : Option (List ℕ)) (faults faults' : ℕ) (bytes : List ℕ) : Type 0 where
  pub front : GainsFront got got' bytes
  pub later : faults ≤ faults'
  pub rose : Rose faults faults'

-- A question that was refused: the sink failed, or there was no memory, and nothing was written.
abbrev pub WasRefused : JournalFault → Option (List ℕ) → Option (List ℕ) → ℕ → ℕ → List ℕ → Type 0
WasRefused Sink got got' faults faults' bytes = WasCut got got' faults faults' bytes
WasRefused NoMemory got got' faults faults' bytes = (got' ≡ got) × (faults' ≡ faults)

-- a question on no array asks for at most 32,768 cells
abbrev pub IsAskable : Target → Type 0
IsAskable (Whole s) = s.rows * s.cols ≤ 32768
IsAskable (Marked a) = ⊤

-- Behind the question's line stand the lines of steps that can be written and of which this holds, and the closing line.
pub record IsClosed (bytes origin : List ℕ) (close : Close) (Holds : List Step → Type 0) : Type 0 where
  pub steps : List Step
  pub text : bytes ≡ origin ++ (steps_text steps ++ close_text close)
  pub written : All IsWritten steps
  pub holds : Holds steps
  pub asked : origin ≢ []

-- Behind the question's line stand the lines of steps that can be written; where a step failed, the rest of the last line is missing.
pub record IsSectionBegun (bytes origin : List ℕ) (broken : Bool) : Type 0 where
  pub steps : List Step
  pub written : All IsWritten steps
  pub front : List ℕ
  pub rest : List ℕ
  pub lines : steps_text steps ≡ front ++ rest
  pub text : bytes ≡ origin ++ front
  pub whole : broken ≡ false → rest ≡ []
  pub asked : origin ≢ []
