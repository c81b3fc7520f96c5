use Rattle.std.proofs.Common.{Err, refl}
use Rattle.report_text.specs.Report.{block_text, parts_of_block}
use Rattle.report_text.proofs.PutLaws.{IsPut-more, IsPut-stop, blanks_next}
use Rattle.report_text.proofs.write.put_blocks.Goals as goal

pub returns-in_err-put_block : goal.returns-in_err-put_block
returns-in_err-put_block g c =
    IsPut-stop _ _ _ _ _ _ _ _ _ (Err c.in_err-put_block.field-0.0) c.from_residual.result _ _ _ _ refl c.from_residual.ensures.0 c.loop-block.invariant
    (blanks_next (λ b. block_text c.args.version (parts_of_block b)) c.args.blocks.now c.loop-block.block-index c.block-item.result _ c.loop-block-test.true c.block-item.is) c.in_err-put_block.ensures

pub loop-block-preserved : goal.loop-block-preserved
loop-block-preserved g c =
    IsPut-more _ _ _ _ _ _ _ _ _ tt _ _ _ _ c.loop-block.invariant
    (blanks_next (λ b. block_text c.args.version (parts_of_block b)) c.args.blocks.now c.loop-block.block-index c.block-item.result _ c.loop-block-test.true c.block-item.is) c.in_ok-put_block.ensures
