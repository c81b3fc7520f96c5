use Rattle.std.proofs.Common.{◌+◌, sym, subst, arith}
use Rattle.reach_encoding.proofs.ModelOfStarts.{IsLeft, left_more, left_whole}
use Rattle.reach_encoding.proofs.flood.left.Goals as goal

pub loop-row-preserved : goal.loop-row-preserved
loop-row-preserved c = subst (IsLeft (c.loop-row.row + 1)) (sym c.in_ok-push.ensures.items) (left_more c.loop-row.row c.loop-row.cells.items c.loop-row.invariant)

pub returns : goal.returns
returns c =
    let end = c.loop-row.auto.row-end in
    let last = c.loop-row-test.false in
    let rows = c.rows-row-end.ensures.same in
    let size = c.rows-row-end.ensures.size in
    left_whole c.args.shape c.loop-row.cells.items c.loop-row.row (omega arith) (omega arith) c.loop-row.invariant
