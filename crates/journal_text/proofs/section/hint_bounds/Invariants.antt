use Rattle.std.proofs.Common.{take, w32}
use Rattle.std.specs.Prelude.{All, FitsSigned}
use Rattle.journal_text.proofs.section.hint_bounds.Given as goal

abbrev pub invariant-loop-hint : goal.invariant-loop-hint
invariant-loop-hint l = All (FitsSigned w32) (take l.hint-index l.hints)
