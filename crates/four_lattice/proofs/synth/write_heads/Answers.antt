use Rattle.four_lattice.proofs.BlocksLaws.{input_names_are}
use Rattle.four_lattice.proofs.synth.write_heads.Goals as goal

pub write_head-requires-clause-names : goal.write_head-requires-clause-names
write_head-requires-clause-names g c = input_names_are c.args.pla.now c.requires.pla
