use Rattle.std.proofs.Common.{◌≡◌, take}
use Rattle.std.specs.Prelude.{All}
use Rattle.lattice_grid.specs.Control.{NamesBelow}
use Rattle.lattice_grid.specs.Told.{told_cells}
use Rattle.lattice_grid.proofs.told.rows.Given as goal

abbrev pub invariant-loop-off : goal.invariant-loop-off
invariant-loop-off g l = record {
  rows : l.cells.items ≡ told_cells (g.T.Telling.literal l.telling) l.ons (take l.off-index l.offs);
  inputs : All (NamesBelow 10) l.cells.items;
}
