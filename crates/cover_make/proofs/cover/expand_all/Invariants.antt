use Rattle.std.proofs.Common.{ℕ, ◌^◌}
use Rattle.std.specs.FinSet as set
use Rattle.cube_core.proofs.Tools.{count_below}
use Rattle.cover_make.proofs.ExpansionsLaws.{IsFoundBelow}
use Rattle.cover_make.proofs.cover.expand_all.Given as goal

abbrev pub invariant-loop-x : goal.invariant-loop-x
invariant-loop-x l = (end : ℕ) × IsFoundBelow l.inputs l.need l.room l.left l.cubes.items end

abbrev pub decreases-loop-x : goal.decreases-loop-x
decreases-loop-x l = count_below (set.contains l.left) (2 ^ l.inputs)
