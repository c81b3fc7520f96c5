use Rattle.std.proofs.Common.{◌∙◌, rules}
use Rattle.reach_encoding.specs.EncodeParts.{choice_clause}
use Rattle.reach_encoding.specs.Encoding.{cells_of}
use Rattle.reach_encoding.proofs.EncodeLists.{Adds-push, room_push}
use Rattle.reach_encoding.proofs.EncodeCells.{choice_clause_over}
use Rattle.reach_encoding.proofs.encode.push_choices.Goals as goal

pub push-requires-clause-over : goal.push-requires-clause-over
push-requires-clause-over c = rw (c.loop-cell.invariant.vars ∙ c.requires.vars, c.deref.ensures.value, c.in_ok-fill_choice.ensures) (choice_clause_over c.args.task.now c.loop-cell.cell (search rules))

pub push-requires-clause-room : goal.push-requires-clause-room
push-requires-clause-room c = room_push c.args.task.now (choice_clause c.args.task.now) c.loop-cell.cell (cells_of c.args.task.now) _ _ c.requires c.loop-cell.invariant (search rules)

pub loop-cell-preserved : goal.loop-cell-preserved
loop-cell-preserved c = Adds-push (choice_clause c.args.task.now) c.loop-cell.cell _ _ _ c.loop-cell.invariant (search rules)
