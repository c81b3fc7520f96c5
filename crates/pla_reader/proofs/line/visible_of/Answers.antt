use Rattle.std.proofs.Common.{ap, ◌∙◌, take}
use Rattle.std.specs.Prelude.{◌==◌}
use Rattle.std.specs.List.{before_first}
use Rattle.pla_reader.specs.Lines.{visible}
use Rattle.pla_reader.proofs.line.visible_of.Goals as goal

pub returns : goal.returns
unfolding visible
returns c = ap (λ n. take n c.body_of-text.result.now) c.place_of.ensures.same ∙ ap (before_first (λ b. b == 35)) c.body_of-text.ensures
