use Rattle.std.proofs.Common.{◌≡◌, length}
use Rattle.std.specs.List.{list_all}
use Rattle.clause_core.specs.Text.{words_of}
use Rattle.lrat_replay.specs.LratRead.{is_lrat_word}
use Rattle.lrat_replay.proofs.read.has_lrat_words.Given as goal

abbrev pub invariant-loop-word : goal.invariant-loop-word
invariant-loop-word l = list_all is_lrat_word (words_of l.rest) ≡ list_all is_lrat_word (words_of l.line)

abbrev pub decreases-loop-word : goal.decreases-loop-word
decreases-loop-word l = length l.rest
