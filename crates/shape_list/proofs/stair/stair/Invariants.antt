use Rattle.std.proofs.Common.{◌+◌, ◌-◌}
use Rattle.shape_list.proofs.StairLaws.{IsStairTo}
use Rattle.shape_list.proofs.stair.stair.Given as goal

abbrev pub invariant-loop-rows : goal.invariant-loop-rows
invariant-loop-rows l = IsStairTo l.area l.rows l.shapes.items

abbrev pub decreases-loop-rows : goal.decreases-loop-rows
decreases-loop-rows l = l.area + 1 - l.rows
