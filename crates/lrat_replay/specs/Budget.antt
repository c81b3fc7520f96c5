-- How many new steps there can be.
use Rattle.std.specs.Prelude.{◌<◌, ◌^◌, List, length}
use Rattle.std.specs.List.{Contains}
use Rattle.clause_core.specs.Formula.{Formula, IsOver}
use Rattle.lrat_replay.specs.Book.{Numbered, start}
use Rattle.lrat_replay.specs.New.{AreAccepted, AreNew}

-- over so many variables there are fewer new steps than 3 to the power of their number, as there are sets of literals
-- without a literal and its complement
abbrev pub AreFewerThanSets : Type 0
AreFewerThanSets = (formula : Formula) (steps : List Numbered) → AreAccepted (start formula) steps → AreNew (start formula) steps
    → ((step : Numbered) → Contains steps step → IsOver formula.vars step.clause) → length steps < 3 ^ formula.vars
