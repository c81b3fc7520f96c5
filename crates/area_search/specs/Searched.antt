-- What a search writes that stops.
use Rattle.std.specs.Prelude.{◌≡◌, ℕ, List}
use Rattle.std.specs.declared.option.Option.{Option}
use Rattle.lattice_question.specs.Written.{StoppedAsking}
use Rattle.area_search.specs.declared.fault.SearchFault.{SearchFault}
use Rattle.area_search.specs.declared.fault.SearchFault.TheVariants.{Sink}

-- What a search wrote that stopped: a front of sections of the output alone. Its fault is the sink's only where the sink's count of faults rose.
abbrev pub StoppedSearch : ℕ → Option (List ℕ) → Option (List ℕ) → ℕ → ℕ → SearchFault → Type 0
StoppedSearch output got got' faults faults' fault = StoppedAsking output got got' faults faults' (fault ≡ Sink)
