use Rattle.std.proofs.Common.{length}
use Rattle.journal_text.proofs.CursorLaws.{IsReading}
use Rattle.journal_text.proofs.read.spelled.Given as goal

abbrev pub invariant-loop-parts : goal.invariant-loop-parts
invariant-loop-parts l = IsReading l.bytes l.reader l.parts.items

abbrev pub decreases-loop-parts : goal.decreases-loop-parts
decreases-loop-parts l = length l.reader.rest.now
