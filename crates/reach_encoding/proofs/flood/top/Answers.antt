use Rattle.std.proofs.Common.{◌+◌, sym, subst, arith}
use Rattle.reach_encoding.proofs.ModelOfStarts.{IsTop, top_more, top_whole}
use Rattle.reach_encoding.proofs.flood.top.Goals as goal

pub loop-col-preserved : goal.loop-col-preserved
loop-col-preserved c = subst (IsTop (c.loop-col.col + 1)) (sym c.in_ok-push.ensures.items) (top_more c.loop-col.col c.loop-col.cells.items c.loop-col.invariant)

pub returns : goal.returns
returns c =
    let end = c.loop-col.auto.col-end in
    let last = c.loop-col-test.false in
    let cols = c.cols-col-end.ensures.same in
    let size = c.cols-col-end.ensures.size in
    top_whole c.args.shape c.loop-col.cells.items c.loop-col.col (omega arith) (omega arith) c.loop-col.invariant
