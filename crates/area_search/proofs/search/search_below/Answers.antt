use Rattle.std.proofs.Common.{arith}
use Rattle.area_search.proofs.search.search_below.Goals as goal

pub returns-in-Err-clause-stopped : goal.returns-in-Err-clause-stopped
returns-in-Err-clause-stopped g c first faults h earlier = c.in-Err.ensures.stopped first faults (c.loop-progress.invariant.written first h) (omega (arith, earlier, c.loop-progress.invariant.later))
