use Rattle.std.proofs.Common.{Err, refl}
use Rattle.report_text.proofs.Tools.{IsPut-more, IsPut-stop, blanks_next}
use Rattle.journal_text.specs.Parts.{part_of}
use Rattle.journal_text.specs.Text.{part_text}
use Rattle.journal_text.proofs.write.put_parts.Goals as goal

pub returns-in_err-put_part : goal.returns-in_err-put_part
returns-in_err-put_part g c =
    IsPut-stop _ _ _ _ _ _ _ _ _ (Err c.in_err-put_part.field-0.0) c.from_residual.result _ _ _ _ refl c.from_residual.ensures.0 c.loop-part.invariant
    (blanks_next (λ p. part_text c.args.version (part_of p)) c.args.parts.now c.loop-part.part-index c.part-item.result _ c.loop-part-test.true c.part-item.is) c.in_err-put_part.ensures

pub loop-part-preserved : goal.loop-part-preserved
loop-part-preserved g c =
    IsPut-more _ _ _ _ _ _ _ _ _ tt _ _ _ _ c.loop-part.invariant
    (blanks_next (λ p. part_text c.args.version (part_of p)) c.args.parts.now c.loop-part.part-index c.part-item.result _ c.loop-part-test.true c.part-item.is) c.in_ok-put_part.ensures
