use Rattle.std.proofs.Common.{arith, length-drop, ◌∙◌}
use Rattle.wire_io.specs.Laws.{GainsFront-take, Gains-take, slice_to_end}
use Rattle.wire_io.proofs.sink.write_all.Goals as goal

pub returns-in_err-given-clause-front : goal.returns-in_err-given-clause-front
returns-in_err-given-clause-front g c = rw c.in_err-given.ensures.kept (GainsFront-take _ _ _ _ c.loop-given.invariant.0)

pub loop-given-preserved : goal.loop-given-preserved
loop-given-preserved g c =
    let more = rw slice_to_end at c.in_ok-given.ensures.gained in
    let within = rw slice_to_end at c.in_ok-given.ensures.bound in (
      Gains-take _ _ _ _ _ _ c.loop-given.invariant.0 more,
      omega (arith, within, length-drop c.loop-given.given c.args.bytes.now),
      c.in_ok-given.ensures.cause.still ∙ c.loop-given.invariant.2,
    )
