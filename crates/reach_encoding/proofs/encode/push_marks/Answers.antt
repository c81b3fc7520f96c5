use Rattle.std.proofs.Common.{rules}
use Rattle.reach_encoding.specs.Encoding.{many_asked, marks_at}
use Rattle.reach_encoding.proofs.EncodeLists.{Adds-more, HasRoom-more}
use Rattle.reach_encoding.proofs.encode.push_marks.Goals as goal

pub push_marks_at-requires-clause-room : goal.push_marks_at-requires-clause-room
push_marks_at-requires-clause-room c = HasRoom-more c.args.task.now (marks_at c.args.task.now) c.loop-time.time (many_asked c.args.task.now) _ _ c.requires c.loop-time.invariant (search rules)

pub loop-time-preserved : goal.loop-time-preserved
loop-time-preserved c = Adds-more (marks_at c.args.task.now) c.loop-time.time _ _ _ c.loop-time.invariant c.in_ok-push_marks_at.ensures
