use Rattle.std.proofs.Common.{◌-◌, ◌≤◌}
use Rattle.shape_list.proofs.StairLaws.{IsCoveredTo}
use Rattle.shape_list.proofs.refuted.covered_below.Given as goal

abbrev pub invariant-loop-rows : goal.invariant-loop-rows
invariant-loop-rows l = record {
  some : 1 ≤ l.rows;
  covered : IsCoveredTo l.refuted l.area l.rows;
}

abbrev pub decreases-loop-rows : goal.decreases-loop-rows
decreases-loop-rows l = l.area - l.rows
