use Rattle.std.proofs.Common.{◌≡◌, take}
use Rattle.cover_make.specs.Cubes.{table_of}
use Rattle.finder_set.proofs.split.table_of.Given as goal

abbrev pub invariant-loop-cube : goal.invariant-loop-cube
invariant-loop-cube l = l.table ≡ table_of l.inputs (take l.cube-index l.cubes)
