use Rattle.std.proofs.Common.{Err, refl, ap, ◌∷◌, [], ◌++◌}
use Rattle.report_text.specs.Cells.{size_text, array_text}
use Rattle.report_text.proofs.Tools.{puts_then, puts_stop, puts_as}
use Rattle.journal_text.proofs.lines.put_marked.Goals as goal

pub returns-in_err-put : goal.returns-in_err-put
returns-in_err-put g c =
    let rows = array_text c.args.array.now in
    puts_as _ _ _ _ _ _ _ _ _ (ap (λ s. size_text s ++ 32 ∷ rows) c.shape.ensures.same)
    (puts_then _ _ _ _ _ _ _ _ _ tt c.from_residual-in_err-put.result (size_text c.shape.result) (32 ∷ rows)
    (puts_stop _ _ _ _ _ _ (Err c.in_err-put.field-0.0) c.from_residual-in_err-put.result (32 ∷ []) rows refl c.from_residual-in_err-put.ensures.0
    (record { ok = tt; front = c.in_err-put.ensures.front; cause = c.in_err-put.ensures.cause })) c.in_ok-put_size.ensures)

pub returns : goal.returns
returns g c =
    let rows = array_text c.args.array.now in
    puts_as _ _ _ _ _ _ _ _ _ (ap (λ s. size_text s ++ 32 ∷ rows) c.shape.ensures.same)
    (puts_then _ _ _ _ _ _ _ _ _ tt c.put_array.result (size_text c.shape.result) (32 ∷ rows)
    (puts_then _ _ _ _ _ _ _ _ _ tt c.put_array.result (32 ∷ []) rows c.put_array.ensures (record { ok = c.in_ok-put.ensures.ok; front = c.in_ok-put.ensures.front; cause = c.in_ok-put.ensures.cause })) c.in_ok-put_size.ensures)
