use Rattle.std.proofs.Common.{rules}
use Rattle.path_meaning.specs.Defective.{defect_in}
use Rattle.reach_encoding.specs.Encoding.{cells_of, place_of, values_with}
use Rattle.reach_encoding.proofs.EncodeLists.{Adds-more, HasRoom-more}
use Rattle.reach_encoding.proofs.encode.push_values.Goals as goal

pub push_cell-requires-clause-room : goal.push_cell-requires-clause-room
push_cell-requires-clause-room c = rw c.defect.ensures (HasRoom-more c.args.task.now (λ p. values_with c.args.task.now (defect_in c.args.task.now.array (place_of c.args.task.now.size p)) p) c.loop-cell.cell (cells_of c.args.task.now) _ _ c.requires c.loop-cell.invariant (search rules))

pub loop-cell-preserved : goal.loop-cell-preserved
loop-cell-preserved c = Adds-more (λ p. values_with c.args.task.now (defect_in c.args.task.now.array (place_of c.args.task.now.size p)) p) c.loop-cell.cell _ _ _ c.loop-cell.invariant (rw c.defect.ensures at c.in_ok-push_cell.ensures)
