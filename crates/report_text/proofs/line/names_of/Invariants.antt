use Rattle.report_text.specs.Pieces.{words}
use Rattle.report_text.proofs.NamesLaws.{NamesRead}
use Rattle.report_text.proofs.line.names_of.Given as goal

abbrev pub invariant-loop-named : goal.invariant-loop-named
invariant-loop-named l = NamesRead (words l.line) (words l.bytes) l.names.items l._named
