use Rattle.lattice_grid.proofs.Tools.{IsDrawnTo}
use Rattle.lattice_compose.proofs.drawn.drawn.Given as goal

abbrev pub invariant-loop-index : goal.invariant-loop-index
invariant-loop-index g l = IsDrawnTo (g.P.Picture.control l.picture) l.shape.cols l.index l.cells.items
