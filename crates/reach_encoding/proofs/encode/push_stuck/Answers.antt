use Rattle.std.proofs.Common.{rules}
use Rattle.reach_encoding.specs.EncodeParts.{stuck_clause}
use Rattle.reach_encoding.specs.Encoding.{many_asked}
use Rattle.reach_encoding.proofs.EncodeLists.{Adds-push, room_push}
use Rattle.reach_encoding.proofs.encode.push_stuck.Goals as goal

pub push-requires-clause-room : goal.push-requires-clause-room
push-requires-clause-room c = room_push c.args.task.now (stuck_clause c.args.task.now c.args.on c.args.cell) c.loop-time.time (many_asked c.args.task.now) _ _ c.requires.room c.loop-time.invariant (search rules)

pub loop-time-preserved : goal.loop-time-preserved
loop-time-preserved c = Adds-push (stuck_clause c.args.task.now c.args.on c.args.cell) c.loop-time.time _ _ _ c.loop-time.invariant (search rules)
