use Rattle.std.proofs.Common.{◌≡◌, length}
use Rattle.clause_core.specs.Text.{words_of}
use Rattle.clause_core.specs.CnfRead.{literal_from}
use Rattle.lrat_replay.specs.LratRead.{until, onto}
use Rattle.lrat_replay.proofs.read.read_literals.Given as goal

abbrev pub invariant-loop-word : goal.invariant-loop-word
invariant-loop-word l = until literal_from (words_of l.text) ≡ onto l.lits.items (until literal_from (words_of l.rest))

abbrev pub decreases-loop-word : goal.decreases-loop-word
decreases-loop-word l = length l.rest
