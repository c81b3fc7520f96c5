use Rattle.std.proofs.Common.{◌≡◌, map, string_bytes, length}
use Rattle.four_lattice.specs.WordsParts.{is_spelled}
use Rattle.four_lattice.proofs.words.are_spelled.Given as goal

abbrev pub invariant-loop-rest : goal.invariant-loop-rest
invariant-loop-rest l = is_spelled (map string_bytes l.words) ≡ is_spelled (map string_bytes l.rest)

abbrev pub decreases-loop-rest : goal.decreases-loop-rest
decreases-loop-rest l = length l.rest
