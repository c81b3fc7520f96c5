use Rattle.pla_reader.specs.Parts.{parts_of}
use Rattle.four_lattice.proofs.VerifiedLaws.{IsTested}
use Rattle.four_lattice.proofs.verify.test_blocks.Given as goal

abbrev pub invariant-loop-block : goal.invariant-loop-block
invariant-loop-block l = IsTested (record { parts = parts_of l.pla; version = l.version; rails = l.rails }) l.blocks l.block-index l.least l.line
