use Rattle.std.proofs.Common.{map, rules}
use Rattle.reach_encoding.specs.EncodeParts.{value_clause}
use Rattle.reach_encoding.specs.Encoding.{below, many_asked, many_controls}
use Rattle.reach_encoding.proofs.EncodeLists.{Adds-more, HasRoom-more}
use Rattle.reach_encoding.proofs.encode.push_sound.Goals as goal

pub push_control-requires-clause-room : goal.push_control-requires-clause-room
push_control-requires-clause-room c = HasRoom-more c.args.task.now (λ n. map (value_clause c.args.task.now c.args.cell n) (below (many_asked c.args.task.now))) c.loop-control.control (many_controls c.args.task.now) _ _ c.requires.room c.loop-control.invariant (search rules)

pub loop-control-preserved : goal.loop-control-preserved
loop-control-preserved c = Adds-more (λ n. map (value_clause c.args.task.now c.args.cell n) (below (many_asked c.args.task.now))) c.loop-control.control _ _ _ c.loop-control.invariant c.in_ok-push_control.ensures
