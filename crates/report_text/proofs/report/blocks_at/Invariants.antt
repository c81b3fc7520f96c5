use Rattle.std.proofs.Common.{map, length}
use Rattle.report_text.specs.Report.{parts_of_block}
use Rattle.report_text.proofs.BlocksLaws.{BlocksRead}
use Rattle.report_text.proofs.report.blocks_at.Given as goal

abbrev pub invariant-loop-more : goal.invariant-loop-more
invariant-loop-more l = BlocksRead l.version l.bytes l.first (map parts_of_block l.blocks.items) l.rest l.line

abbrev pub decreases-loop-more : goal.decreases-loop-more
decreases-loop-more l = length l.rest
