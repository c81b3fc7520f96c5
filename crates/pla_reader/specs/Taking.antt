-- Taking the lines of a text, one after another.
use Rattle.std.specs.Prelude.{◌≡◌, ◌≢◌, ℕ, Bool, false, List, [], ◌∷◌, ◌++◌, length, Result, Ok, Err, Some, None}
use Rattle.std.specs.List.{sum_by}
use Rattle.pla_reader.specs.declared.fault.LineFault.{LineFault}
use Rattle.pla_reader.specs.declared.pla.PlaRefusal.{PlaRefusal}
use Rattle.pla_reader.specs.declared.pla.PlaRefusal.TheVariants.{NoMemory}
use Rattle.pla_reader.specs.Lines.{Line, lines_of, line_length}
use Rattle.pla_reader.specs.Says.{Said, said_by}
use Rattle.pla_reader.specs.Given.{are_given}
use Rattle.pla_reader.specs.Faults.{fault_after}
use Rattle.pla_reader.specs.State.{State, IsState, Keeps}
use Rattle.pla_reader.specs.Reading.{is_end, refusal_at, said_in, lines_read, AreSound}

-- A line without a fault is taken, and the answer is whether it ends the PLA; or its fault is answered as a refusal, unless there was no memory.
abbrev pub TakesNumbered : ℕ → Line → State → State → Result Bool PlaRefusal → Type 0
TakesNumbered number line old new (Ok last) =
    (last ≡ is_end (said_by line)) × IsState new × ((before : List Said) → Keeps before old → (fault_after before (said_by line) ≡ None) × Keeps (before ++ said_by line ∷ []) new)
TakesNumbered number line old new (Err refusal) =
    refusal ≢ NoMemory → (before : List Said) → Keeps before old → (fault : LineFault) × (fault_after before (said_by line) ≡ Some fault) × (refusal ≡ refusal_at fault number)

-- All lines that are looked at have been taken. This is the number of the last one, and the place after it.
pub record HasTaken (bytes : List ℕ) (s : State) (line place : ℕ) : Type 0 where
  pub state : IsState s
  pub keeps : Keeps (said_in bytes) s
  pub sound : AreSound (said_in bytes) (length (said_in bytes))
  pub place_is : place ≡ sum_by line_length (lines_read bytes)
  pub last : are_given (said_in bytes) ≡ false → line ≡ length (lines_of bytes)
