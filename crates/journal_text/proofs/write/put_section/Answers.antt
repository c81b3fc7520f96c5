use Rattle.std.proofs.Common.{Err, refl, ◌++◌}
use Rattle.report_text.proofs.Tools.{puts_then, puts_stop, puts_as}
use Rattle.journal_text.specs.Parts.{section_of}
use Rattle.journal_text.specs.Text.{question_text, steps_text, close_text}
use Rattle.journal_text.proofs.WriteLaws.{section_lines}
use Rattle.journal_text.proofs.write.put_section.Goals as goal

pub returns-in_err-put_question : goal.returns-in_err-put_question
returns-in_err-put_question g c =
    let s = c.args.section.now in
    puts_as _ _ _ _ _ _ _ _ _ (section_lines s)
    (puts_stop _ _ _ _ _ _ (Err c.in_err-put_question.field-0.0) c.from_residual.result (question_text s.output s.target) (steps_text (section_of s).steps ++ close_text s.close) refl c.from_residual.ensures.0 c.in_err-put_question.ensures)

pub returns : goal.returns
returns g c =
    let s = c.args.section.now in
    puts_as _ _ _ _ _ _ _ _ _ (section_lines s)
    (puts_then _ _ _ _ _ _ _ _ _ tt c.put_inner.result (question_text s.output s.target) (steps_text (section_of s).steps ++ close_text s.close) c.put_inner.ensures c.in_ok-put_question.ensures)
