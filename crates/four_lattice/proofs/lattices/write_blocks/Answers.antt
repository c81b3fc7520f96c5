use Rattle.std.proofs.Common.{◌<◌, length, arith}
use Rattle.wire_io.specs.Laws.{IsWritten-more, IsWritten-stop}
use Rattle.four_lattice.proofs.BlocksLaws.{blocks_after-next}
use Rattle.four_lattice.proofs.lattices.write_blocks.Goals as goal

pub returns-in_err-write_block-clause-front : goal.returns-in_err-write_block-clause-front
returns-in_err-write_block-clause-front g c =
    let named : c.loop-place.place < length c.args.names.now = let same = c.requires.same in omega arith in
    IsWritten-stop _ _ _ _ _ _ _ c.loop-place.invariant.written
    (blocks_after-next c.args.how c.args.first c.args.names.now c.args.specs.now c.loop-place.place c.index-names-place.result c.in_ok-copy.field-0 c.index-specs-place.result c.in_ok-make.field-0 c.new.result.items
    named c.loop-place-test.true c.index-names-place.is c.in_ok-copy.ensures c.index-specs-place.is c.in_ok-make.ensures c.new.ensures.items) c.in_err-write_block.ensures.front

pub loop-place-preserved : goal.loop-place-preserved
loop-place-preserved g c =
    let named : c.loop-place.place < length c.args.names.now = let same = c.requires.same in omega arith in
    record {
      written = IsWritten-more _ _ _ _ _ _ _ c.loop-place.invariant.written
          (blocks_after-next c.args.how c.args.first c.args.names.now c.args.specs.now c.loop-place.place c.index-names-place.result c.in_ok-copy.field-0 c.index-specs-place.result c.in_ok-make.field-0 c.new.result.items
          named c.loop-place-test.true c.index-names-place.is c.in_ok-copy.ensures c.index-specs-place.is c.in_ok-make.ensures c.new.ensures.items) c.in_ok-write_block.ensures.ok;
      later = omega (arith, c.in_ok-write_block.ensures.cause.later);
    }
