use Rattle.std.proofs.Common.{sym, ◌∙◌, subst}
use Rattle.std.specs.Prelude.{OnOk}
use Rattle.wire_io.specs.Told.{Gains, GainsFront}
use Rattle.four_lattice.proofs.BlocksLaws.{chosen-slices}
use Rattle.four_lattice.proofs.lattices.write_chosen.Goals as goal

pub returns-in-Some-clause-ok : goal.returns-in-Some-clause-ok
returns-in-Some-clause-ok g c =
    subst (λ t. OnOk c.write_blocks-in-Some.result (Gains (g.K.Sink.got c.args.sink.now) (g.K.Sink.got c.write_blocks-in-Some.new.sink) t))
    (chosen-slices c.args.how c.args.output c.in-Some.output c.as_slice-names.result.now c.args.pla.now.output_names.keys c.deref-in-Some.result.now c.args.pla.now.specs.items c.in-Some.is
    c.as_slice-names.ensures.keys c.deref-in-Some.ensures.value (c.requires.whole.output_names ∙ sym c.requires.whole.functions)) c.write_blocks-in-Some.ensures.ok

pub returns-in-Some-clause-front : goal.returns-in-Some-clause-front
returns-in-Some-clause-front g c =
    subst (λ t. GainsFront (g.K.Sink.got c.args.sink.now) (g.K.Sink.got c.write_blocks-in-Some.new.sink) t)
    (chosen-slices c.args.how c.args.output c.in-Some.output c.as_slice-names.result.now c.args.pla.now.output_names.keys c.deref-in-Some.result.now c.args.pla.now.specs.items c.in-Some.is
    c.as_slice-names.ensures.keys c.deref-in-Some.ensures.value (c.requires.whole.output_names ∙ sym c.requires.whole.functions)) c.write_blocks-in-Some.ensures.front
