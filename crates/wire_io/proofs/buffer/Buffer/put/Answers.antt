use Rattle.std.proofs.Common.{subst, sym}
use Rattle.wire_io.specs.Laws.{GainsFront-append}
use Rattle.wire_io.specs.Passing.{Passes}
use Rattle.wire_io.proofs.PassingLaws.{Passes-given, Passes-append, Passes-flushed}
use Rattle.wire_io.proofs.buffer.Buffer.put.Goals as goal

pub returns-in_err-write_all-clause-front : goal.returns-in_err-write_all-clause-front
returns-in_err-write_all-clause-front g c = GainsFront-append _ _ _ _ _ c.in_ok-flush.ensures.ok c.in_err-write_all.ensures.front

pub returns-clause-ok : goal.returns-clause-ok
returns-clause-ok g c =
    subst (λ w. Passes (g.K.Sink.got c.args.sink.now) (g.K.Sink.got c.write_all.new.sink) c.args.self.now w c.args.piece.now) (sym c.in_ok-flush.ensures.empty)
    (Passes-append _ _ _ _ _ _ _ _ (Passes-flushed _ _ _ c.in_ok-flush.ensures.ok) (Passes-given _ _ _ c.in_ok-write_all.ensures.ok))

pub returns-clause-front : goal.returns-clause-front
returns-clause-front g c = GainsFront-append _ _ _ _ _ c.in_ok-flush.ensures.ok c.in_ok-write_all.ensures.front
