use Rattle.std.proofs.Common.{ap, ◌∙◌}
use Rattle.std.specs.Prelude.{◌==◌, length, unwrap_or}
use Rattle.defect_array.proofs.TakeLaws.{unwrap_position}
use Rattle.defect_array.proofs.line.place_or_end.Goals as goal

pub returns-clause-same : goal.returns-clause-same
returns-clause-same c = c.unwrap_or.ensures ∙ ap (λ o. unwrap_or o (length c.args.bytes.now)) c.place_of.ensures ∙ unwrap_position (λ b. b == c.args.wanted) c.args.bytes.now
