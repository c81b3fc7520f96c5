use Rattle.std.proofs.Common.{◌≡◌, ◌-◌, ◌≤◌, false}
use Rattle.std.specs.Vec.{vec_len}
use Rattle.std.specs.List.{range_with_len}
use Rattle.pla_reader.specs.Parts.{parts_of}
use Rattle.four_lattice.specs.Devices.{change}
use Rattle.four_lattice.specs.Minima.{asked, IsTallyOf, WroteBlocks}
use Rattle.four_lattice.specs.Rejected.{AreAskedWhereFull}
use Rattle.four_lattice.proofs.synth.write_outputs.Given as goal

abbrev pub invariant-loop-output : goal.invariant-loop-output
invariant-loop-output g l =
    let got = g.K.Sink.got in let faults = g.K.Sink.faults in
    record {
      wrote : WroteBlocks (asked l.rails l.conflicts (parts_of l.pla)) (range_with_len l.first (l.output - l.first)) l.tally
          (change (got l.initial.out) (faults l.initial.out) (got l.out) (faults l.out))
          (change (got l.initial.writer.sink) (faults l.initial.writer.sink) (got l.writer.sink) (faults l.writer.sink));
      few : IsTallyOf (l.output - l.first) l.tally;
      whole : l.writer.failed ≡ false;
      used : AreAskedWhereFull (λ finder. (goal.Finder-dyn g (finder.vtable, finder.value)).begun finder.value) (λ finder. (goal.Finder-dyn g (finder.vtable, finder.value)).left finder.value) l.rails (parts_of l.pla)
          (range_with_len l.first (l.output - l.first)) l.initial.finders.items l.finders.items l.rejected.items;
      fewer : vec_len l.finders ≤ vec_len l.initial.finders;
    }
