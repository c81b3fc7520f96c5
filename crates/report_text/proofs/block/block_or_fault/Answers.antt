use Rattle.report_text.proofs.AnswerLaws.{one_block, one_fault, block_apart, some_block}
use Rattle.report_text.proofs.block.block_or_fault.Goals as goal

pub returns-clause-one_block : goal.returns-clause-one_block
returns-clause-one_block c = one_block

pub returns-clause-one_fault : goal.returns-clause-one_fault
returns-clause-one_fault c = one_fault

pub returns-clause-not_both : goal.returns-clause-not_both
returns-clause-not_both c = block_apart

pub returns-clause-some : goal.returns-clause-some
returns-clause-some c = some_block
