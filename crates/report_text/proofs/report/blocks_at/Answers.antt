use Rattle.std.proofs.Common.{◌+◌, ap, ◌∙◌, arith, sym, length}
use Rattle.std.proofs.lemmas.Bool.{eqb-false}
use Rattle.report_text.specs.Report.{parts_of_block}
use Rattle.report_text.proofs.BlocksLaws.{line_bound, block_shorter, more_behind, blocks_fault, BlocksRead-push, block_some, parts-push}
use Rattle.report_text.proofs.report.blocks_at.Goals as goal

pub overflow_add-result : goal.overflow_add-result
overflow_add-result c = let few = line_bound _ _ _ _ _ c.loop-more.line c.loop-more.invariant in let room = c.requires in omega (arith, few, room)

pub returns-else-is_empty : goal.returns-else-is_empty
returns-else-is_empty c =
    more_behind _ _ _ _ _ c.in-Some.more.now c.loop-more.line c.loop-more.invariant c.in-Some.ensures
    (λ e. eqb-false (length c.in-Some.more.now) 0 (sym c.is_empty.ensures ∙ c.if-is_empty.false) (ap length e))

pub block_at-requires : goal.block_at-requires
block_at-requires c = let few = line_bound _ _ _ _ _ c.loop-more.line c.loop-more.invariant in let room = c.requires in omega (arith, few, room)

pub returns-in-Err : goal.returns-in-Err
returns-in-Err c = rw c.refused.ensures (blocks_fault _ _ _ _ _ c.loop-more.line c.in-Err.fault c.loop-more.invariant c.in_default.ensures c.in-Err.ensures)

pub overflow_add-line : goal.overflow_add-line
overflow_add-line c =
    let few = line_bound _ _ _ _ _ c.loop-more.line c.loop-more.invariant in
    let room = c.requires in
    let shorter = block_shorter _ _ _ _ c.in-Ok.ensures in
    let lines = c.lines-line.ensures.count in
    omega (arith, few, room, shorter, lines)

pub loop-more-smaller : goal.loop-more-smaller
loop-more-smaller c = let shorter = block_shorter _ _ _ _ c.in-Ok.ensures in let some = block_some c.args.version (parts_of_block c.in-Ok.block) in omega (arith, shorter, some)

pub loop-more-preserved : goal.loop-more-preserved
loop-more-preserved c =
    rw (parts-push _ _ _ c.in_ok-push-in-Ok.ensures.items)
    (BlocksRead-push _ _ _ _ _ c.loop-more.line _ _ _ c.loop-more.invariant c.in-Ok.ensures (ap (λ n. c.loop-more.line + n) c.lines-line.ensures.count))
