use Rattle.audit_core.proofs.SameLaws.{copied_more}
use Rattle.audit_core.proofs.asked.cells_of.Goals as goal

pub loop-cell-preserved : goal.loop-cell-preserved
loop-cell-preserved c =
    copied_more c.args.array.now c.loop-cell.cells.items c.push.new.self.items c.shape-shape.result c.loop-cell.cell c.area-cell-end.result c.place.result c.at.result c.shape-shape.ensures.same c.shape-shape.ensures.kept c.area-cell-end.ensures
    c.loop-cell-test.true c.place.ensures.same c.at.ensures c.loop-cell.invariant c.in_ok-push.ensures.items
