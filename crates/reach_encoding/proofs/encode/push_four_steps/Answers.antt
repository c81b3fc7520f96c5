use Rattle.std.proofs.Common.{map, rules}
use Rattle.reach_encoding.specs.EncodeParts.{step_clause}
use Rattle.reach_encoding.specs.Encoding.{cells_of, next_four}
use Rattle.reach_encoding.proofs.EncodeLists.{Adds-more, HasRoom-more}
use Rattle.reach_encoding.proofs.EncodeCells.{all_within}
use Rattle.lattice_grid.specs.Path.{AreFourNeighbours}
use Rattle.reach_encoding.proofs.encode.push_four_steps.Goals as goal

pub push_steps-requires-clause-within : goal.push_steps-requires-clause-within
push_steps-requires-clause-within c = rw (c.deref.ensures.0) (rw c.shape.ensures.same at (all_within AreFourNeighbours _ _ _ c.four-next.ensures.neighbours))

pub push_steps-requires-clause-room : goal.push_steps-requires-clause-room
push_steps-requires-clause-room c = rw (c.deref.ensures.0, c.four-next.ensures.list, c.shape.ensures.same, c.place.ensures.same) (HasRoom-more c.args.task.now (λ p. map (step_clause c.args.task.now c.args.time c.args.through p) (next_four c.args.task.now.size p)) c.loop-cell.cell (cells_of c.args.task.now) _ _ c.requires.room c.loop-cell.invariant (search rules))

pub loop-cell-preserved : goal.loop-cell-preserved
loop-cell-preserved c = Adds-more (λ p. map (step_clause c.args.task.now c.args.time c.args.through p) (next_four c.args.task.now.size p)) c.loop-cell.cell _ _ _ c.loop-cell.invariant (rw (c.deref.ensures.0, c.four-next.ensures.list, c.shape.ensures.same, c.place.ensures.same) at c.in_ok-push_steps.ensures)
