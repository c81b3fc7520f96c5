use Rattle.std.proofs.Common.{inr, arith, codes}
use Rattle.four_lattice.proofs.SynthLaws.{GainsFront-none}
use Rattle.four_lattice.proofs.synth.write_ends.Goals as goal

pub returns-in-Err-clause-stopped : goal.returns-in-Err-clause-stopped
returns-in-Err-clause-stopped g c = record {
  out_front = GainsFront-none (g.K.Sink.got c.args.out.now) (codes "end\n");
  journal_front = c.in-Err.ensures.cut.front;
  later = record { of_out = omega arith; of_journal = c.in-Err.ensures.cut.later };
  cause = inr c.in-Err.ensures.cut.rose;
}
