use Rattle.std.proofs.Common.{length}
use Rattle.pla_reader.specs.Lines.{words_of}
use Rattle.pla_reader.proofs.NamesLaws.{AreNames}
use Rattle.pla_reader.proofs.names.names_at.Given as goal

abbrev pub invariant-loop-word : goal.invariant-loop-word
invariant-loop-word l = AreNames l.names.keys (words_of l.rest) (words_of l.fn.text)

abbrev pub decreases-loop-word : goal.decreases-loop-word
decreases-loop-word l = length (words_of l.rest)
