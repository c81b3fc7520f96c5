use Rattle.std.proofs.Common.{◌≡◌, ◌<◌, ◌∙◌, ap, arith, subst, ◌≤◌}
use Rattle.path_meaning.proofs.FloodLaws.{visit_top_kept, top_more}
use Rattle.path_meaning.proofs.flood.visit_top.Goals as goal

pub loop-col-preserved : goal.loop-col-preserved
loop-col-preserved g c =
    let s = (g.C.Cells.size c.args.cells.now) in
    let on = g.C.Cells.on c.args.cells.now in
    let some : 1 ≤ s.rows = subst (λ z. 1 ≤ z.rows) c.shape.ensures c.cols-col-end.ensures.size.some_rows in
    let cols : c.cols-col-end.result ≡ s.cols = c.cols-col-end.ensures.same ∙ ap (λ z. z.cols) c.shape.ensures in
    let below : c.loop-col.col < s.cols = omega (arith, c.loop-col-test.true, cols) in
    let kept = visit_top_kept s on c.loop-col.marked c.visit.new.marked c.loop-col.col c.loop-col.invariant.flood some below c.visit.ensures.visited in
    record { flood = kept.flood; top = top_more s on c.loop-col.marked c.visit.new.marked c.loop-col.col kept c.loop-col.invariant.top; cells = c.visit.ensures.cells ∙ c.loop-col.invariant.cells }
