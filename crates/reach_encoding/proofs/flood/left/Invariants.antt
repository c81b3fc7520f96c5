use Rattle.reach_encoding.proofs.ModelOfStarts.{IsLeft}
use Rattle.reach_encoding.proofs.flood.left.Given as goal

abbrev pub invariant-loop-row : goal.invariant-loop-row
invariant-loop-row l = IsLeft l.row l.cells.items
