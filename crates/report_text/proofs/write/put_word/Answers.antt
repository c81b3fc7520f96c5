use Rattle.std.proofs.Common.{[], ◌∷◌, Err, refl}
use Rattle.report_text.proofs.PutLaws.{puts_then, puts_stop}
use Rattle.report_text.proofs.write.put_word.Goals as goal

pub returns-in_err-put : goal.returns-in_err-put
returns-in_err-put g c =
    puts_stop _ _ _ _ _ _ (Err c.in_err-put.field-0.0) c.from_residual.result (32 ∷ []) (g.T.Spelled.text c.args.word.now) refl c.from_residual.ensures.0
    (record { ok = tt; front = c.in_err-put.ensures.front; cause = c.in_err-put.ensures.cause })

pub returns : goal.returns
returns g c =
    puts_then _ _ _ _ _ _ _ _ _ tt c.put-2.result (32 ∷ []) (g.T.Spelled.text c.args.word.now) c.put-2.ensures
    (record { ok = c.in_ok-put.ensures.ok; front = c.in_ok-put.ensures.front; cause = c.in_ok-put.ensures.cause })
