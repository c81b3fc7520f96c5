use Rattle.std.proofs.Common.{◌∷◌, [], ◌∙◌, ap, arith, codes, decimal}
use Rattle.report_text.specs.Cells.{size_text}
use Rattle.report_text.specs.Pieces.{words_left}
use Rattle.report_text.proofs.PartLaws.{tails, least_small, no_bound-area}
use Rattle.report_text.proofs.form.bound_of.Goals as goal

pub returns-in_err-least : goal.returns-in_err-least
returns-in_err-least c = rw c.from_residual-in_err-least.ensures (λ least at n is e.
    let few = least_small least at n is in
    c.in_err-least.ensures least (codes "at") (size_text at ∷ codes "after" ∷ decimal n ∷ []) (omega (arith, few)) (tails _ _ _ _ _ c.in_ok-line.ensures e).1)

pub returns-else-least-area : goal.returns-else-least-area
returns-else-least-area c =
    no_bound-area _ _ _ _ _ _ c.in_ok-least.least c.in_ok-at.at c.in_ok-after.after c.in_ok-line.ensures c.in_ok-least.ensures.1 c.in_ok-line-2.ensures
    (c.word_at.ensures ∙ ap (λ w. w ∷ words_left c.word_at.result.1) c.in_ok-at.ensures.1 ∙ ap (λ o. size_text c.in_ok-at.at ∷ words_left o) c.in_ok-rest.was) c.in_ok-line-3.ensures c.in_ok-after.ensures.1
    (let few = c.in_ok-least.ensures.0 in omega (arith, few)) c.in_ok-at.ensures.0 (rw c.area.ensures at c.if-least-area.false)
