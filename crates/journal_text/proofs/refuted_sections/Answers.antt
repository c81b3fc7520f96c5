use Rattle.journal_text.proofs.ShownLaws.{excludes_below, excludes_on}
use Rattle.journal_text.proofs.refuted_sections.Goals as goal

pub returns : goal.returns
returns c = record { below = excludes_below; on_array = excludes_on }
