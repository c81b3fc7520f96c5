-- What a call answers to a line that has a fault or none.
use Rattle.std.specs.Prelude.{◌≡◌, Option, Some, None, Result, Ok, Err}
use Rattle.pla_reader.specs.declared.fault.LineFault.{LineFault}
use Rattle.pla_reader.specs.declared.fault.Stop.{Stop}
use Rattle.pla_reader.specs.declared.fault.Stop.TheVariants.{Fault, NoMemory}

-- The fault is answered, or where there is none a value of which P holds.
abbrev pub GivesValue : {X : Type 0} → (X → Type 0) → Result X LineFault → Option LineFault → Type 0
GivesValue P (Ok x) fault = (fault ≡ None) × P x
GivesValue P (Err f) fault = fault ≡ Some f

abbrev pub Stops : Stop → Option LineFault → Type 0
Stops NoMemory fault = Unit {0}
Stops (Fault f) fault = fault ≡ Some f

-- The same, unless there was no memory.
abbrev pub Judges : {X : Type 0} → (X → Type 0) → Result X Stop → Option LineFault → Type 0
Judges P (Ok x) fault = (fault ≡ None) × P x
Judges P (Err stop) fault = Stops stop fault
