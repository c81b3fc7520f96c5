-- What comes of placing a function on an array.
use Rattle.std.specs.Prelude.{◌≡◌, ℕ, List}
use Rattle.std.specs.declared.option.Option.{Option}
use Rattle.cube_core.specs.Function.{Function}
use Rattle.lattice_grid.specs.Defects.{Defects}
use Rattle.lattice_grid.specs.Lattice.{Lattice}
use Rattle.journal_text.specs.Least.{IsRightOn}
use Rattle.report_text.specs.declared.answer.Answer.{Answer}
use Rattle.report_text.specs.declared.answer.Answer.TheVariants.{Found, Minimum, Undecided, Mapped, NoneMapped, MapUndecided, NoRails}
use Rattle.lattice_question.specs.Written.{StoppedAsking}
use Rattle.defect_array.specs.declared.place.PlaceFault.{PlaceFault}
use Rattle.defect_array.specs.declared.place.PlaceFault.TheVariants.{Sink}

-- What an answer for the array says, whatever the sink tells, where every literal is allowed; a placing has three answers.
abbrev pub HoldsOnArray : Function → Defects → ℕ → Answer → Type 0
HoldsOnArray f a budget (Found g) = ⊥
HoldsOnArray f a budget (Minimum g) = ⊥
HoldsOnArray f a budget (Undecided g least at after) = ⊥
HoldsOnArray f a budget (Mapped g array) = (array ≡ a) × IsRightOn 1048575 f a g
HoldsOnArray f a budget (NoneMapped array) = (array ≡ a) × ((g : Lattice) → IsRightOn 1048575 f a g → ⊥)
HoldsOnArray f a budget (MapUndecided array after) = (array ≡ a) × (after ≡ budget)
HoldsOnArray f a budget (NoRails x y) = ⊥

-- What a placing wrote that stopped: a front of sections of the output alone. Its fault is the sink's only where the sink's count of faults rose.
abbrev pub StoppedPlace : ℕ → Option (List ℕ) → Option (List ℕ) → ℕ → ℕ → PlaceFault → Type 0
StoppedPlace output got got' faults faults' fault = StoppedAsking output got got' faults faults' (fault ≡ Sink)
