use Rattle.std.proofs.Common.{◌≡◌, ap, sym, ◌∙◌, refl, ◌&&◌, true}
use Rattle.std.specs.Prelude.{is_some}
use Rattle.pla_reader.specs.Says.Said.{Ends}
use Rattle.pla_reader.specs.State.{state_of}
use Rattle.pla_reader.proofs.StateLaws.{fault-end, Keeps-nothing}
use Rattle.pla_reader.proofs.given.Given.take_end.Goals as goal

pub returns-then-is_some-2 : goal.returns-then-is_some-2
returns-then-is_some-2 c =
    let given : (is_some c.args.self.now.inputs && is_some c.args.self.now.outputs) ≡ true = ap (λ b. b && is_some c.args.self.now.outputs) (sym c.is_some.ensures ∙ c.if-is_some.true) ∙ sym c.is_some-then-is_some.ensures ∙ c.if-is_some-2.true in
    (c.requires, λ before k. (fault-end before (state_of c.args.self.now) true k given, Keeps-nothing before (state_of c.args.self.now) Ends k refl refl refl refl refl refl))
