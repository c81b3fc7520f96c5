use Rattle.std.proofs.Common.{◌≡◌, ap, ◌∙◌, subst, arith, ℕ}
use Rattle.report_text.specs.Pieces.{words, words_left}
use Rattle.report_text.proofs.CellsLaws.{HasCells, HasCells-push, no_row-word, no_row-few, whole_row}
use Rattle.report_text.proofs.line.add_row.Goals as goal

pub returns-in_default : goal.returns-in_default
returns-in_default c = no_row-few _ _ _ _ c.loop-col._col c.args.cols c.loop-col.invariant (ap words_left c.in_default.is) c.loop-col-test.true

pub returns-in_default-control_of : goal.returns-in_default-control_of
returns-in_default-control_of c =
    no_row-word _ _ _ c.word_at.result.0.now _ _ c.loop-col._col c.args.cols c.loop-col.invariant (ap words_left c.in-Some.is ∙ c.word_at.ensures) c.in_default-control_of.ensures

pub loop-col-preserved : goal.loop-col-preserved
loop-col-preserved c =
    HasCells-push _ _ _ c.word_at.result.0.now _ _ _ c.in-Some-control_of.control c.loop-col._col c.loop-col.invariant (ap words_left c.in-Some.is ∙ c.word_at.ensures) c.in-Some-control_of.ensures.0 c.in-Some-control_of.ensures.1
    c.in_ok-push.ensures.items

pub returns : goal.returns
returns c =
    let end : c.loop-col._col ≡ c.args.cols = omega arith in
    whole_row _ c.loop-col.rest c.is_none.result _ _ c.args.cols
    (subst (λ (n : ℕ). HasCells (words c.args.line.now) (words_left c.loop-col.rest) c.args.cells.now.items c.loop-col.cells.items n) end c.loop-col.invariant) c.is_none.ensures
