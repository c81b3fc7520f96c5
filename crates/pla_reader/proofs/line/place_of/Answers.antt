use Rattle.std.proofs.Common.{ap, ◌∙◌}
use Rattle.std.specs.Prelude.{◌==◌, length, unwrap_or}
use Rattle.pla_reader.proofs.LinesLaws.{unwrap_position}
use Rattle.pla_reader.proofs.line.place_of.Goals as goal

pub returns-clause-same : goal.returns-clause-same
returns-clause-same c = c.unwrap_or.ensures ∙ ap (λ o. unwrap_or o (length c.args.bytes.now)) c.first_place.ensures ∙ unwrap_position (λ b. b == c.args.wanted) c.args.bytes.now
