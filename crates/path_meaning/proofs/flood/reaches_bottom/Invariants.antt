use Rattle.std.proofs.Common.{◌≡◌, length}
use Rattle.path_meaning.specs.Flood.{IsFlood, NoCell, TopIsMarked}
use Rattle.path_meaning.specs.Stamps.{left_of}
use Rattle.path_meaning.proofs.flood.reaches_bottom.Given as goal

abbrev pub invariant-loop-p : goal.invariant-loop-p
invariant-loop-p g l = record {
  flood : IsFlood (g.C.Cells.size l.cells) (g.C.Cells.on l.cells) NoCell l.marked;
  top : TopIsMarked (g.C.Cells.size l.cells) (g.C.Cells.on l.cells) (g.C.Cells.size l.cells).cols l.marked;
  cells : length l.marked.stamps ≡ length l.initial.marked.stamps;
}

abbrev pub decreases-loop-p : goal.decreases-loop-p
decreases-loop-p g l = left_of l.marked
