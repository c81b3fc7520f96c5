use Rattle.std.proofs.Common.{ap, ◌∙◌, ◌∷◌}
use Rattle.report_text.specs.Pieces.{words_left}
use Rattle.journal_text.proofs.FormLaws.{no_large, marked_target}
use Rattle.journal_text.proofs.form.target_of.Goals as goal

pub returns-in-Some-rest : goal.returns-in-Some-rest
returns-in-Some-rest c =
    marked_target c.args.line.now c.word_at.result.0.now c.in-Some-rest.rows.now c.in-Some.shape c.marked_of.result c.in-Some.ensures.0
    (c.word_at.ensures ∙ ap (λ o. c.word_at.result.0.now ∷ words_left o) c.in-Some-rest.is) c.in-Some.ensures.1 c.marked_of.ensures

pub returns-else-area-le-MOST_CELLS : goal.returns-else-area-le-MOST_CELLS
returns-else-area-le-MOST_CELLS c =
    no_large c.args.line.now c.word_at.result.0.now c.in-Some.shape c.in-Some.ensures.0 (c.word_at.ensures ∙ ap (λ o. c.word_at.result.0.now ∷ words_left o) c.in-None.is) c.in-Some.ensures.1
    (rw (← c.area.ensures) c.if-area-le-MOST_CELLS.false)
