use Rattle.std.proofs.Common.{Err, refl, ◌∷◌, [], ◌++◌}
use Rattle.report_text.specs.Writing.{behind_blanks}
use Rattle.report_text.proofs.PutLaws.{puts_then, puts_stop, puts_as, line_parts}
use Rattle.report_text.proofs.write.put_line.Goals as goal

pub returns-in_err-put : goal.returns-in_err-put
returns-in_err-put g c =
    let blanks = behind_blanks g.T.Spelled.text c.args.others.now in
    puts_as _ _ _ _ _ _ _ _ _ (line_parts g.T.Spelled.text c.args.first.now c.args.others.now)
    (puts_stop _ _ _ _ _ _ (Err c.in_err-put.field-0.0) c.from_residual.result c.args.first.now (blanks ++ 10 ∷ []) refl c.from_residual.ensures.0
    (record { ok = tt; front = c.in_err-put.ensures.front; cause = c.in_err-put.ensures.cause }))

pub returns-in_err-put_words : goal.returns-in_err-put_words
returns-in_err-put_words g c =
    let blanks = behind_blanks g.T.Spelled.text c.args.others.now in
    puts_as _ _ _ _ _ _ _ _ _ (line_parts g.T.Spelled.text c.args.first.now c.args.others.now)
    (puts_then _ _ _ _ _ _ _ _ _ tt c.from_residual-in_err-put_words.result c.args.first.now (blanks ++ 10 ∷ [])
    (puts_stop _ _ _ _ _ _ (Err c.in_err-put_words.field-0.0) c.from_residual-in_err-put_words.result blanks (10 ∷ []) refl c.from_residual-in_err-put_words.ensures.0 c.in_err-put_words.ensures)
    (record { ok = c.in_ok-put.ensures.ok; front = c.in_ok-put.ensures.front; cause = c.in_ok-put.ensures.cause }))

pub returns : goal.returns
returns g c =
    let blanks = behind_blanks g.T.Spelled.text c.args.others.now in
    puts_as _ _ _ _ _ _ _ _ _ (line_parts g.T.Spelled.text c.args.first.now c.args.others.now)
    (puts_then _ _ _ _ _ _ _ _ _ tt c.put-2.result c.args.first.now (blanks ++ 10 ∷ [])
    (puts_then _ _ _ _ _ _ _ _ _ tt c.put-2.result blanks (10 ∷ []) (record { ok = c.put-2.ensures.ok; front = c.put-2.ensures.front; cause = c.put-2.ensures.cause }) c.in_ok-put_words.ensures)
    (record { ok = c.in_ok-put.ensures.ok; front = c.in_ok-put.ensures.front; cause = c.in_ok-put.ensures.cause }))
