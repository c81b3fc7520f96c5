use Rattle.std.proofs.Common.{Err, refl, ◌∷◌, [], ◌++◌, append_assoc}
use Rattle.std.specs.Fmt.{decimal}
use Rattle.report_text.proofs.Tools.{puts_then, puts_stop, puts_as}
use Rattle.journal_text.proofs.write.put_lead.Goals as goal

pub returns-in_err-put_number : goal.returns-in_err-put_number
returns-in_err-put_number g c =
    puts_as _ _ _ _ _ _ _ _ _ (append_assoc c.args.lead.now (decimal c.args.number) (10 ∷ []))
    (puts_stop _ _ _ _ _ _ (Err c.in_err-put_number.field-0.0) c.from_residual.result (c.args.lead.now ++ decimal c.args.number) (10 ∷ []) refl c.from_residual.ensures.0 c.in_err-put_number.ensures)

pub returns : goal.returns
returns g c =
    puts_as _ _ _ _ _ _ _ _ _ (append_assoc c.args.lead.now (decimal c.args.number) (10 ∷ []))
    (puts_then _ _ _ _ _ _ _ _ _ tt c.put.result (c.args.lead.now ++ decimal c.args.number) (10 ∷ [])
    (record { ok = c.put.ensures.ok; front = c.put.ensures.front; cause = c.put.ensures.cause }) c.in_ok-put_number.ensures)
