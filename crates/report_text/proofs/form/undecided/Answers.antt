use Rattle.std.proofs.Common.{◌∷◌, [], codes, decimal}
use Rattle.report_text.specs.Cells.{size_text}
use Rattle.report_text.proofs.form.undecided.Goals as goal

pub returns-in_err-line : goal.returns-in_err-line
returns-in_err-line c = rw c.from_residual.ensures (λ size least at n is e. c.in_err-line.ensures (size_text size) (codes "least" ∷ decimal least ∷ codes "at" ∷ size_text at ∷ codes "after" ∷ decimal n ∷ []) e)
