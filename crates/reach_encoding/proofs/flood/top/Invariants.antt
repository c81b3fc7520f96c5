use Rattle.reach_encoding.proofs.ModelOfStarts.{IsTop}
use Rattle.reach_encoding.proofs.flood.top.Given as goal

abbrev pub invariant-loop-col : goal.invariant-loop-col
invariant-loop-col l = IsTop l.col l.cells.items
