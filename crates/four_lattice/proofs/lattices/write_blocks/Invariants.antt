use Rattle.std.proofs.Common.{◌≤◌, map}
use Rattle.wire_io.specs.Laws.{IsWritten}
use Rattle.pla_reader.specs.Names.{bytes_of}
use Rattle.report_text.specs.declared.answer.Version.TheVariants.{Two}
use Rattle.report_text.specs.Report.{blocks_text}
use Rattle.four_lattice.specs.Lattices.{blocks_by}
use Rattle.four_lattice.proofs.BlocksLaws.{blocks_after}
use Rattle.four_lattice.proofs.lattices.write_blocks.Given as goal

abbrev pub invariant-loop-place : goal.invariant-loop-place
invariant-loop-place g l = record {
  written : IsWritten (g.K.Sink.got l.initial.sink) (g.K.Sink.got l.sink) (blocks_after l.how l.first l.place l.names l.specs) (blocks_text Two (blocks_by l.how l.first (map bytes_of l.names) l.specs));
  later : g.K.Sink.faults l.initial.sink ≤ g.K.Sink.faults l.sink;
}
