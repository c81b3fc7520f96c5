use Rattle.std.proofs.Common.{get_or}
use Rattle.cube_core.specs.Cube.{HasLiterals}
use Rattle.pla_reader.specs.Meaning.{literal_of}
use Rattle.pla_reader.proofs.row.cube_of.Given as goal

-- the cube has the literals of the digits so far
abbrev pub invariant-loop-input : goal.invariant-loop-input
invariant-loop-input l = HasLiterals (λ i. literal_of (get_or l.digits i 0)) l.input l.cube
