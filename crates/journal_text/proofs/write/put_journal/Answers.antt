use Rattle.std.proofs.Common.{Err, refl, ◌++◌, codes}
use Rattle.report_text.proofs.Tools.{puts_then, puts_stop, puts_as}
use Rattle.journal_text.specs.Parts.{parts_of_journal}
use Rattle.journal_text.specs.Text.{head_text, parts_text}
use Rattle.journal_text.proofs.WriteLaws.{journal_lines}
use Rattle.journal_text.proofs.write.put_journal.Goals as goal

pub returns-in_err-put_head : goal.returns-in_err-put_head
returns-in_err-put_head g c =
    let j = c.args.journal.now in
    puts_as _ _ _ _ _ _ _ _ _ (journal_lines j)
    (puts_stop _ _ _ _ _ _ (Err c.in_err-put_head.field-0.0) c.from_residual.result (head_text j.version j.rails) (parts_text j.version (parts_of_journal j).parts ++ codes "end\n") refl c.from_residual.ensures.0 c.in_err-put_head.ensures)

pub returns : goal.returns
returns g c =
    let j = c.args.journal.now in
    puts_as _ _ _ _ _ _ _ _ _ (journal_lines j)
    (puts_then _ _ _ _ _ _ _ _ _ tt c.put_body.result (head_text j.version j.rails) (parts_text j.version (parts_of_journal j).parts ++ codes "end\n") c.put_body.ensures c.in_ok-put_head.ensures)
