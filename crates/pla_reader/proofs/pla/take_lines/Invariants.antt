use Rattle.std.proofs.Common.{length}
use Rattle.pla_reader.specs.State.{state_of}
use Rattle.pla_reader.proofs.ReachLaws.{Reached}
use Rattle.pla_reader.proofs.pla.take_lines.Given as goal

abbrev pub invariant-lines : goal.invariant-lines
invariant-lines l = Reached l.bytes l.rest l.number (state_of l.given)

abbrev pub decreases-lines : goal.decreases-lines
decreases-lines l = length l.rest
