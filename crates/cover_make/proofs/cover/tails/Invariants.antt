use Rattle.std.proofs.Common.{◌≡◌, drop}
use Rattle.cover_make.specs.Cubes.{table_of}
use Rattle.cover_make.specs.Tails.{tails_of}
use Rattle.cover_make.proofs.cover.tails.Given as goal

abbrev pub invariant-loop-place : goal.invariant-loop-place
invariant-loop-place l = record {
  tails_are : l.tails.items ≡ tails_of l.inputs (drop l.place l.cubes);
  behind_is : l.behind ≡ table_of l.inputs (drop l.place l.cubes);
}
