use Rattle.std.proofs.Common.{ap, ◌∙◌}
use Rattle.report_text.specs.Bounds.{IsProof}
use Rattle.report_text.specs.Cells.{proof_text}
use Rattle.report_text.specs.Pieces.{words_left}
use Rattle.report_text.proofs.ItemsLaws.{items_push, no_items-word}
use Rattle.report_text.proofs.PartLaws.{tails}
use Rattle.report_text.proofs.line.proofs_of.Goals as goal

pub returns-in_default-proof_of : goal.returns-in_default-proof_of
returns-in_default-proof_of c = λ ps is e.
    no_items-word IsProof proof_text _ _ _ c.word_at-in-Some.result.0.now _ c.loop-rest.invariant (ap words_left c.in-Some.is ∙ c.word_at-in-Some.ensures) c.in_default-proof_of.ensures ps is (tails _ _ _ _ _ c.word_at.ensures e).1

pub loop-rest-preserved : goal.loop-rest-preserved
loop-rest-preserved c =
    items_push IsProof proof_text _ _ _ c.word_at-in-Some.result.0.now _ _ c.in-Some-proof_of.proof c.loop-rest.invariant (ap words_left c.in-Some.is ∙ c.word_at-in-Some.ensures) c.in-Some-proof_of.ensures.0 c.in-Some-proof_of.ensures.1
    c.in_ok-push.ensures.items
