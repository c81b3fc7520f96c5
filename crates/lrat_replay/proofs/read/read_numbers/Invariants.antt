use Rattle.std.proofs.Common.{◌≡◌, length}
use Rattle.clause_core.specs.Text.{words_of}
use Rattle.lrat_replay.specs.LratRead.{until, value_of, onto}
use Rattle.lrat_replay.proofs.read.read_numbers.Given as goal

abbrev pub invariant-loop-word : goal.invariant-loop-word
invariant-loop-word l = until value_of (words_of l.text) ≡ onto l.numbers.items (until value_of (words_of l.rest))

abbrev pub decreases-loop-word : goal.decreases-loop-word
decreases-loop-word l = length l.rest
