use Rattle.std.proofs.Common.{◌∙◌, ap}
use Rattle.wire_io.specs.Laws.{slice_to_end}
use Rattle.clause_core.specs.Text.{words_of}
use Rattle.clause_core.proofs.TextLaws.{words-skip}
use Rattle.clause_core.proofs.text.skip_gap.Goals as goal

pub returns-clause-words : goal.returns-clause-words
returns-clause-words c = ap words_of (slice_to_end c.args.text.now c.gap_len.result) ∙ words-skip c.args.text.now c.gap_len.result c.gap_len.ensures
