use Rattle.std.proofs.Common.{ap, ◌∙◌, not, length}
use Rattle.std.specs.Prelude.{unwrap_or}
use Rattle.pla_reader.specs.Lines.{is_gap}
use Rattle.pla_reader.proofs.LinesLaws.{unwrap_position}
use Rattle.pla_reader.proofs.word.gap_end.Goals as goal

pub returns-clause-same : goal.returns-clause-same
returns-clause-same c = c.unwrap_or.ensures ∙ ap (λ o. unwrap_or o (length c.args.text.now)) c.first_solid.ensures ∙ unwrap_position (λ b. not (is_gap b)) c.args.text.now
