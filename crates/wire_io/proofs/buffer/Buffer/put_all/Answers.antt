use Rattle.std.proofs.Common.{rules, refl, ◌∙◌}
use Rattle.wire_io.proofs.PassingLaws.{Passes-flat_map, Passes-flat_map_front, IsStopped-flat_map}
use Rattle.wire_io.proofs.buffer.Buffer.put_all.Goals as goal

pub returns-in_err-put-clause-front : goal.returns-in_err-put-clause-front
returns-in_err-put-clause-front g c =
    Passes-flat_map_front (λ piece. piece.now) c.args.pieces.now c.loop-piece.piece-index _ _ _ _ _ _ _ c.loop-piece-test.true refl c.loop-piece.invariant.passed c.in_err-put.ensures.front

pub loop-piece-preserved : goal.loop-piece-preserved
loop-piece-preserved g c = record {
  passed = Passes-flat_map (λ piece. piece.now) c.args.pieces.now c.loop-piece.piece-index _ _ _ _ _ _ _ _ c.loop-piece-test.true refl c.loop-piece.invariant.passed c.in_ok-put.ensures.ok;
  still = c.in_ok-put.ensures.cause.still ∙ c.loop-piece.invariant.still;
}

pub returns-in_err-put-clause-stopped : goal.returns-in_err-put-clause-stopped
returns-in_err-put-clause-stopped g c =
    let stopped = IsStopped-flat_map (λ piece. piece.now) c.args.pieces.now c.loop-piece.piece-index _ _ _ _ _ _ _ _ c.loop-piece-test.true refl c.loop-piece.invariant.passed c.in_err-put.ensures.held in
    search (rules, stopped)
