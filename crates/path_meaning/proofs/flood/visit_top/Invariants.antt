use Rattle.std.proofs.Common.{◌≡◌, length}
use Rattle.path_meaning.specs.Flood.{IsFlood, NoCell, TopIsMarked}
use Rattle.path_meaning.proofs.flood.visit_top.Given as goal

abbrev pub invariant-loop-col : goal.invariant-loop-col
invariant-loop-col g l = record {
  flood : IsFlood (g.C.Cells.size l.cells) (g.C.Cells.on l.cells) NoCell l.marked;
  top : TopIsMarked (g.C.Cells.size l.cells) (g.C.Cells.on l.cells) l.col l.marked;
  cells : length l.marked.stamps ≡ length l.initial.marked.stamps;
}
