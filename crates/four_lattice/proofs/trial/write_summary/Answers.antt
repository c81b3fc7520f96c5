use Rattle.std.proofs.Common.{◌∙◌, subst}
use Rattle.std.specs.Prelude.{OnOk}
use Rattle.wire_io.specs.Told.{Gains, GainsFront}
use Rattle.four_lattice.proofs.TrialLaws.{summary-pieces}
use Rattle.four_lattice.proofs.trial.write_summary.Goals as goal

pub returns-clause-ok : goal.returns-clause-ok
returns-clause-ok g c =
    subst (λ text. OnOk c.write_pieces.result (Gains (g.K.Sink.got c.args.out.now) (g.K.Sink.got c.write_pieces.new.sink) text))
    (summary-pieces c.args.number c.args.tally c.args.steps _ _ _ _ _ (c.as_bytes.ensures.value ∙ c.format.ensures.text) (c.as_bytes-2.ensures.value ∙ c.format-2.ensures.text) (c.as_bytes-3.ensures.value ∙ c.format-3.ensures.text)
    (c.as_bytes-4.ensures.value ∙ c.format-4.ensures.text) (c.as_bytes-5.ensures.value ∙ c.format-5.ensures.text)) c.write_pieces.ensures.ok

pub returns-clause-front : goal.returns-clause-front
returns-clause-front g c =
    subst (λ text. GainsFront (g.K.Sink.got c.args.out.now) (g.K.Sink.got c.write_pieces.new.sink) text)
    (summary-pieces c.args.number c.args.tally c.args.steps _ _ _ _ _ (c.as_bytes.ensures.value ∙ c.format.ensures.text) (c.as_bytes-2.ensures.value ∙ c.format-2.ensures.text) (c.as_bytes-3.ensures.value ∙ c.format-3.ensures.text)
    (c.as_bytes-4.ensures.value ∙ c.format-4.ensures.text) (c.as_bytes-5.ensures.value ∙ c.format-5.ensures.text)) c.write_pieces.ensures.front
