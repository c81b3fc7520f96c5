use Rattle.std.proofs.Common.{List, length}
use Rattle.journal_text.specs.declared.journal.Part.{Part as PartRead}
use Rattle.journal_text.proofs.CursorLaws.{HasPassed}
use Rattle.journal_text.proofs.reader.Reader.finish.Given as goal

abbrev pub invariant-loop-part : goal.invariant-loop-part
invariant-loop-part l = (parts : List PartRead) × HasPassed l.self l.left parts

abbrev pub decreases-loop-part : goal.decreases-loop-part
decreases-loop-part l = length l.left.rest.now
