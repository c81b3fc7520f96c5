use Rattle.std.proofs.Common.{◌≡◌, ◌++◌, drop}
use Rattle.lrat_replay.specs.LratText.{hints_text}
use Rattle.lrat_replay.proofs.step_text.add_hints.Given as goal

abbrev pub invariant-loop-hint : goal.invariant-loop-hint
invariant-loop-hint l = l.text.items ++ hints_text (drop l.hint-index l.hints) ≡ l.initial.text.items ++ hints_text l.hints
