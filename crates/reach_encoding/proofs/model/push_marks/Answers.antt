use Rattle.std.proofs.Common.{◌≡◌, ◌++◌, ◌∙◌, ap, take, get_or, option_copied, subst, sym}
use Rattle.std.proofs.lemmas.List.{get_or_default, take_more}
use Rattle.reach_encoding.specs.ModelOf.{HasMarks, IsRowOfMarks}
use Rattle.reach_encoding.proofs.ModelOfTables.{marks_more}
use Rattle.reach_encoding.proofs.model.push_marks.Goals as goal

pub loop-x-preserved : goal.loop-x-preserved
loop-x-preserved c =
    let item : c.x-item.result ≡ get_or c.args.asked.now c.loop-x.x-index 0 = c.x-item.is ∙ get_or_default c.args.asked.now c.loop-x.x-index c.x-item.result 0 c.loop-x-test.true in
    subst (λ xs. HasMarks c.args.spec.now.on c.args.grid.now (option_copied c.args.array) xs c.args.values.now.items c.extend_from_slice.new.self.items)
    (sym (take_more c.args.asked.now c.loop-x.x-index 0 c.loop-x-test.true))
    (marks_more c.args.spec.now.on c.args.grid.now (option_copied c.args.array) (take c.loop-x.x-index c.args.asked.now) (get_or c.args.asked.now c.loop-x.x-index 0)
    c.args.values.now.items c.loop-x.values.items c.extend_from_slice.new.self.items c.in_ok-marks.marks.items c.loop-x.invariant
    (subst (λ x. IsRowOfMarks c.args.spec.now.on c.args.grid.now (option_copied c.args.array) x c.in_ok-marks.marks.items) item c.in_ok-marks.ensures)
    (c.in_ok-extend_from_slice.ensures.items ∙ ap (λ row. c.loop-x.values.items ++ row) c.as_slice.ensures.value))
