use Rattle.std.proofs.Common.{arith}
use Rattle.lrat_replay.specs.LineRead.{line_in}
use Rattle.four_lattice.proofs.CheckLaws.{IsReplayedTo-more}
use Rattle.four_lattice.proofs.check.replay_text.Goals as goal

pub loop-line-preserved : goal.loop-line-preserved
loop-line-preserved c =
    let shorter = rw c.in-Some.is at c.in_ok-line.ensures.counted in
    let line = line_in c.in-Some.line.number c.next_line.new.buffer c.in-Some.line.entry in
    record {
      read = IsReplayedTo-more c.args.replay.now c.loop-line.replay c.replay_entry.new.replay c.args.text.now c.loop-line.rest.now c.in-Some.line.rest.now c.loop-line.next c.in-Some.line.next line c.loop-line.invariant.read
          (rw c.in-Some.is at c.in_ok-line.ensures.end) c.in_default-replay_entry.ensures.accepted c.in_default-replay_entry.ensures.after;
      counted = omega (arith, shorter, c.loop-line.invariant.counted);
    }
