use Rattle.std.proofs.Common.{◌≡◌, map}
use Rattle.pla_reader.specs.Names.{bytes_of, default_names}
use Rattle.pla_reader.proofs.names.default_names_of.Given as goal

abbrev pub invariant-loop-number : goal.invariant-loop-number
invariant-loop-number l = map bytes_of l.names.keys ≡ default_names l.letter l.number
