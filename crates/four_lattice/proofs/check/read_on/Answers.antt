use Rattle.std.proofs.Common.{arith}
use Rattle.lrat_replay.specs.LineRead.{line_in}
use Rattle.four_lattice.proofs.CheckLaws.{IsReadTo-more}
use Rattle.four_lattice.proofs.check.read_on.Goals as goal

pub loop-line-preserved : goal.loop-line-preserved
loop-line-preserved c =
    let shorter = rw c.in-Some.is at c.in_ok-line.ensures.counted in
    let line = line_in c.in-Some.line.number c.next_line.new.buffer c.in-Some.line.entry in
    record {
      read = IsReadTo-more c.args.number c.loop-line.next c.in-Some.line.next c.args.text.now c.loop-line.rest.now c.in-Some.line.rest.now line c.loop-line.invariant.read (rw c.in-Some.is at c.in_ok-line.ensures.end);
      counted = omega (arith, shorter, c.loop-line.invariant.counted);
    }
