use Rattle.std.proofs.Common.{length}
use Rattle.report_text.specs.Bounds.{IsProof}
use Rattle.report_text.specs.Cells.{proof_text}
use Rattle.report_text.specs.Pieces.{words_left}
use Rattle.report_text.proofs.ItemsLaws.{HasItems}
use Rattle.report_text.proofs.line.proofs_of.Given as goal

abbrev pub invariant-loop-rest : goal.invariant-loop-rest
invariant-loop-rest l = HasItems IsProof proof_text (words_left l.initial.rest) (words_left l.rest) l.proofs.items

abbrev pub decreases-loop-rest : goal.decreases-loop-rest
decreases-loop-rest l = length (words_left l.rest)
