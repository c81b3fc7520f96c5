use Rattle.std.proofs.Common.{◌≡◌, ◌++◌, drop}
use Rattle.clause_core.specs.Cnf.{literals_text}
use Rattle.lrat_replay.proofs.step_text.add_literals.Given as goal

abbrev pub invariant-loop-lit : goal.invariant-loop-lit
invariant-loop-lit l = l.text.items ++ literals_text (drop l.lit-index l.clause) ≡ l.initial.text.items ++ literals_text l.clause
