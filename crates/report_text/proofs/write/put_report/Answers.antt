use Rattle.std.proofs.Common.{Err, refl, ◌++◌, codes}
use Rattle.std.specs.List.{flat_map}
use Rattle.report_text.specs.Report.{head_text, block_text, parts_of_block, parts_of_report}
use Rattle.report_text.proofs.PutLaws.{puts_then, puts_stop, puts_as, report_parts}
use Rattle.report_text.proofs.write.put_report.Goals as goal

pub returns-in_err-put_head : goal.returns-in_err-put_head
returns-in_err-put_head g c =
    let r = c.args.report.now in
    let p = parts_of_report c.args.report.now in
    let blocks = flat_map (λ b. block_text r.version (parts_of_block b)) r.blocks.items in
    puts_as _ _ _ _ _ _ _ _ _ (report_parts c.args.report.now)
    (puts_stop _ _ _ _ _ _ (Err c.in_err-put_head.field-0.0) c.from_residual.result (head_text p.version p.rails p.input_names) (blocks ++ codes "end\n") refl c.from_residual.ensures.0 (rw c.deref.ensures.value at c.in_err-put_head.ensures))

pub returns-in_err-put_blocks : goal.returns-in_err-put_blocks
returns-in_err-put_blocks g c =
    let r = c.args.report.now in
    let p = parts_of_report c.args.report.now in
    let blocks = flat_map (λ b. block_text r.version (parts_of_block b)) r.blocks.items in
    puts_as _ _ _ _ _ _ _ _ _ (report_parts c.args.report.now)
    (puts_then _ _ _ _ _ _ _ _ _ tt c.from_residual-in_err-put_blocks.result (head_text p.version p.rails p.input_names) (blocks ++ codes "end\n")
    (puts_stop _ _ _ _ _ _ (Err c.in_err-put_blocks.field-0.0) c.from_residual-in_err-put_blocks.result blocks (codes "end\n") refl c.from_residual-in_err-put_blocks.ensures.0 (rw c.deref-2.ensures.value at c.in_err-put_blocks.ensures))
    (rw c.deref.ensures.value at c.in_ok-put_head.ensures))

pub returns : goal.returns
returns g c =
    let r = c.args.report.now in
    let p = parts_of_report c.args.report.now in
    let blocks = flat_map (λ b. block_text r.version (parts_of_block b)) r.blocks.items in
    puts_as _ _ _ _ _ _ _ _ _ (report_parts c.args.report.now)
    (puts_then _ _ _ _ _ _ _ _ _ tt c.put.result (head_text p.version p.rails p.input_names) (blocks ++ codes "end\n")
    (puts_then _ _ _ _ _ _ _ _ _ tt c.put.result blocks (codes "end\n") (record { ok = c.put.ensures.ok; front = c.put.ensures.front; cause = c.put.ensures.cause }) (rw c.deref-2.ensures.value at c.in_ok-put_blocks.ensures))
    (rw c.deref.ensures.value at c.in_ok-put_head.ensures))
