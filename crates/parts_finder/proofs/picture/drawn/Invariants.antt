use Rattle.std.proofs.Common.{◌≡◌, length}
use Rattle.std.specs.Prelude.{All}
use Rattle.lattice_grid.specs.Control.{NamesBelow}
use Rattle.parts_finder.proofs.picture.drawn.Given as goal

abbrev pub invariant-loop-index : goal.invariant-loop-index
invariant-loop-index g l = record {
  many : length l.cells.items ≡ l.index;
  inputs : All (NamesBelow 10) l.cells.items;
}
