use Rattle.std.proofs.Common.{Err, refl, ◌∷◌, [], ◌++◌, codes}
use Rattle.std.specs.Fmt.{decimal}
use Rattle.report_text.proofs.Tools.{puts_then, puts_stop, puts_as}
use Rattle.journal_text.specs.Text.{target_text}
use Rattle.journal_text.proofs.TextLaws.{question_parts}
use Rattle.journal_text.proofs.lines.put_question.Goals as goal

pub returns-in_err-put_number : goal.returns-in_err-put_number
returns-in_err-put_number g c =
    puts_as _ _ _ _ _ _ _ _ _ (question_parts c.args.output c.args.target.now)
    (puts_stop _ _ _ _ _ _ (Err c.in_err-put_number.field-0.0) c.from_residual.result (codes "question " ++ decimal c.args.output) (32 ∷ (target_text c.args.target.now ++ 10 ∷ [])) refl
    c.from_residual.ensures.0 c.in_err-put_number.ensures)

pub returns : goal.returns
returns g c =
    puts_as _ _ _ _ _ _ _ _ _ (question_parts c.args.output c.args.target.now)
    (puts_then _ _ _ _ _ _ _ _ _ tt c.put_asked.result (codes "question " ++ decimal c.args.output) (32 ∷ (target_text c.args.target.now ++ 10 ∷ [])) c.put_asked.ensures c.in_ok-put_number.ensures)
