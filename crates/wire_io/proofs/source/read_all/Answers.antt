use Rattle.std.proofs.Common.{arith, length-take, ◌∙◌}
use Rattle.wire_io.proofs.ReadingLaws.{LosesCount-append, LosesUpTo-append}
use Rattle.wire_io.proofs.source.read_all.Goals as goal

pub returns-then-count-limit-clause-refused : goal.returns-then-count-limit-clause-refused
returns-then-count-limit-clause-refused g c = (
  c.in-Ok.ensures.cause.still ∙ c.loop-count.invariant.still,
  LosesCount-append _ _ _ _ _ _ c.loop-count.invariant.lost c.in-Ok.ensures.taken
      (omega (arith, c.in-Ok.ensures.bound, c.read.auto.buf, length-take c.in-Ok.count c.read.new.buf, length-take c.min-room.result c.loop-count.buf)),
)

pub returns-then-is_err-clause-refused : goal.returns-then-is_err-clause-refused
returns-then-is_err-clause-refused g c = (
  c.in-Ok.ensures.cause.still ∙ c.loop-count.invariant.still,
  LosesUpTo-append _ _ _ _ _ _ c.loop-count.invariant.lost c.in-Ok.ensures.taken
      (omega (arith, c.in-Ok.ensures.bound, c.read.auto.buf, length-take c.in-Ok.count c.read.new.buf, length-take c.min-room.result c.loop-count.buf)),
)
