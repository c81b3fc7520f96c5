use Rattle.std.proofs.Common.{arith}
use Rattle.reach_encoding.specs.Encoding.{choice, yes}
use Rattle.reach_encoding.proofs.EncodeLists.{map_below_more}
use Rattle.reach_encoding.proofs.encode.fill_choice.Goals as goal

pub loop-control-preserved : goal.loop-control-preserved
loop-control-preserved c = let more = map_below_more (λ n. yes (choice c.args.task.now c.args.cell n)) c.loop-control.control in grind (arith, more, c.in_ok-push.ensures.items, c.chosen.ensures.same)
