use Rattle.std.proofs.Common.{Err, refl, ◌++◌}
use Rattle.report_text.specs.Form.{form_of, lattice_of, lists}
use Rattle.report_text.specs.Report.{text_of, words_text, heading_words, heading_of, parts_of_block, lattice_lines, proofs_lines, block_text, block_lines}
use Rattle.report_text.proofs.PutLaws.{puts_then, puts_stop, puts_as, block_parts}
use Rattle.report_text.proofs.write.put_block.Goals as goal

pub returns-in_err-put_heading : goal.returns-in_err-put_heading
returns-in_err-put_heading g c =
    let b = c.args.block.now in
    puts_as _ _ _ _ _ _ _ _ _ (block_parts c.args.version (parts_of_block b))
    (puts_stop _ _ _ _ _ _ (Err c.in_err-put_heading.field-0.0) c.from_residual.result (words_text (heading_words (heading_of (parts_of_block b))))
    (text_of (lattice_lines (lattice_of b.answer) ++ proofs_lines (lists c.args.version (form_of b.answer)) b.proofs.items)) refl c.from_residual.ensures.0 c.in_err-put_heading.ensures)

pub returns : goal.returns
returns g c =
    let b = c.args.block.now in
    puts_as _ _ _ _ _ _ _ _ _ (block_parts c.args.version (parts_of_block b))
    (puts_then _ _ _ _ _ _ _ _ _ tt c.put_body.result (words_text (heading_words (heading_of (parts_of_block b)))) (text_of (lattice_lines (lattice_of b.answer) ++ proofs_lines (lists c.args.version (form_of b.answer)) b.proofs.items))
    c.put_body.ensures c.in_ok-put_heading.ensures)
