use Rattle.lattice_grid.proofs.Tools.{IsDrawnTo}
use Rattle.finder_set.specs.Folded.{folded_control}
use Rattle.finder_set.proofs.folded.folded.Given as goal

abbrev pub invariant-loop-index : goal.invariant-loop-index
invariant-loop-index l = IsDrawnTo (folded_control l.lines l.number l.grid) l.shape.cols l.index l.cells.items
