use Rattle.std.proofs.Common.{◌≡◌, map, take}
use Rattle.pla_reader.specs.Names.{bytes_of}
use Rattle.four_lattice.proofs.verify.are_same_names.Given as goal

abbrev pub invariant-loop-place : goal.invariant-loop-place
invariant-loop-place l = map bytes_of (take l.place l.names) ≡ map bytes_of (take l.place l.others)
