use Rattle.std.proofs.Common.{Err, refl, ap, ◌++◌}
use Rattle.std.specs.List.{flat_map}
use Rattle.report_text.proofs.Tools.{puts_then, puts_stop, puts_as}
use Rattle.journal_text.specs.Lines.{line_text}
use Rattle.journal_text.specs.Text.{close_text}
use Rattle.journal_text.proofs.WriteLaws.{mapped_steps}
use Rattle.journal_text.proofs.write.put_inner.Goals as goal

pub returns-in_err-put_steps : goal.returns-in_err-put_steps
returns-in_err-put_steps g c =
    let s = c.args.section.now in
    puts_as _ _ _ _ _ _ _ _ _ (ap (λ z. z ++ close_text s.close) (mapped_steps s.steps.items))
    (puts_stop _ _ _ _ _ _ (Err c.in_err-put_steps.field-0.0) c.from_residual.result (flat_map line_text s.steps.items) (close_text s.close) refl c.from_residual.ensures.0 (rw c.deref.ensures.value at c.in_err-put_steps.ensures))

pub returns : goal.returns
returns g c =
    let s = c.args.section.now in
    puts_as _ _ _ _ _ _ _ _ _ (ap (λ z. z ++ close_text s.close) (mapped_steps s.steps.items))
    (puts_then _ _ _ _ _ _ _ _ _ tt c.put_close.result (flat_map line_text s.steps.items) (close_text s.close) c.put_close.ensures (rw c.deref.ensures.value at c.in_ok-put_steps.ensures))
