use Rattle.std.proofs.Common.{Err, refl, ◌∷◌, [], ◌++◌}
use Rattle.report_text.proofs.Tools.{puts_then, puts_stop}
use Rattle.journal_text.specs.Text.{target_text}
use Rattle.journal_text.proofs.lines.put_asked.Goals as goal

pub returns-in_err-put : goal.returns-in_err-put
returns-in_err-put g c =
    puts_stop _ _ _ _ _ _ (Err c.in_err-put.field-0.0) c.from_residual.result (32 ∷ []) (target_text c.args.target.now ++ 10 ∷ []) refl c.from_residual.ensures.0
    (record { ok = tt; front = c.in_err-put.ensures.front; cause = c.in_err-put.ensures.cause })

pub returns-in_err-put_target : goal.returns-in_err-put_target
returns-in_err-put_target g c =
    puts_then _ _ _ _ _ _ _ _ _ tt c.from_residual-in_err-put_target.result (32 ∷ []) (target_text c.args.target.now ++ 10 ∷ [])
    (puts_stop _ _ _ _ _ _ (Err c.in_err-put_target.field-0.0) c.from_residual-in_err-put_target.result (target_text c.args.target.now) (10 ∷ []) refl c.from_residual-in_err-put_target.ensures.0 c.in_err-put_target.ensures)
    (record { ok = c.in_ok-put.ensures.ok; front = c.in_ok-put.ensures.front; cause = c.in_ok-put.ensures.cause })

pub returns : goal.returns
returns g c =
    puts_then _ _ _ _ _ _ _ _ _ tt c.put-2.result (32 ∷ []) (target_text c.args.target.now ++ 10 ∷ [])
    (puts_then _ _ _ _ _ _ _ _ _ tt c.put-2.result (target_text c.args.target.now) (10 ∷ []) (record { ok = c.put-2.ensures.ok; front = c.put-2.ensures.front; cause = c.put-2.ensures.cause }) c.in_ok-put_target.ensures)
    (record { ok = c.in_ok-put.ensures.ok; front = c.in_ok-put.ensures.front; cause = c.in_ok-put.ensures.cause })
