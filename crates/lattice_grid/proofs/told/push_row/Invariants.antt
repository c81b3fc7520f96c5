use Rattle.std.proofs.Common.{◌≡◌, ◌++◌, take, map}
use Rattle.std.specs.Prelude.{All}
use Rattle.lattice_grid.specs.Control.{NamesBelow}
use Rattle.lattice_grid.proofs.told.push_row.Given as goal

abbrev pub invariant-loop-on : goal.invariant-loop-on
invariant-loop-on g l = record {
  row : l.cells.items ≡ l.initial.cells.items ++ map (λ on. g.T.Telling.literal l.telling on l.off) (take l.on-index l.ons);
  inputs : All (NamesBelow 10) l.cells.items;
}
