use Rattle.std.proofs.Common.{rules, arith, ◌<◌}
use Rattle.report_text.specs.declared.answer.Version.{Version}
use Rattle.report_text.specs.Bounds.{IsBlock}
use Rattle.report_text.specs.Report.{parts_of_block}
use Rattle.four_lattice.specs.Verified.{IsRight}
use Rattle.pla_reader.specs.Parts.{parts_of}
use Rattle.four_lattice.proofs.VerifiedLaws.{IsTested-more, refused_at, output_low, block_at}
use Rattle.four_lattice.proofs.verify.test_blocks.Goals as goal

pub overflow_add-least : goal.overflow_add-least
overflow_add-least c =
    let right : (version : Version) → IsRight (record { parts = parts_of c.args.pla.now; version = version; rails = c.args.rails }) c.loop-block.least (parts_of_block c.block-item.result) = search rules in
    let low : c.block-item.result.output < 64 = output_low (record { parts = parts_of c.args.pla.now; version = c.args.version; rails = c.args.rails }) c.loop-block.least (parts_of_block c.block-item.result) c.requires.pla (right c.args.version) in
    omega (arith, low)

pub loop-block-preserved : goal.loop-block-preserved
loop-block-preserved c =
    let right : (version : Version) → IsRight (record { parts = parts_of c.args.pla.now; version = version; rails = c.args.rails }) c.loop-block.least (parts_of_block c.block-item.result) = search rules in
    IsTested-more (record { parts = parts_of c.args.pla.now; version = c.args.version; rails = c.args.rails }) c.args.blocks.now c.loop-block.block-index c.loop-block.least c.loop-block.line c.lines-line.result c.block-item.result c.loop-block-test.true c.block-item.is
    c.requires.pla c.loop-block.invariant (right c.args.version) c.lines-line.ensures.count c.lines-line.ensures.few

pub returns-in-Err-clause-refused : goal.returns-in-Err-clause-refused
returns-in-Err-clause-refused c fault =
    refused_at (record { parts = parts_of c.args.pla.now; version = c.args.version; rails = c.args.rails }) c.args.blocks.now c.loop-block.block-index c.loop-block.least c.loop-block.line c.block-item.result c.in-Err.refusal c.loop-block-test.true c.block-item.is
    c.loop-block.invariant (c.in-Err.ensures.refused c.args.version)

pub returns-clause-right : goal.returns-clause-right
returns-clause-right c before block rest whole few =
    let ended = c.loop-block-test.false in
    c.loop-block.invariant.right before block rest whole (omega (arith, ended, few))

pub test_block-requires-clause-answer : goal.test_block-requires-clause-answer
test_block-requires-clause-answer c =
    (block_at (IsBlock c.args.version) c.args.blocks.now c.loop-block.block-index c.block-item.result c.loop-block-test.true c.block-item.is c.requires.blocks).answer
