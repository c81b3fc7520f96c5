use Rattle.reach_encoding.proofs.ModelOfFlood.{flood_turn}
use Rattle.reach_encoding.proofs.flood.spread.Goals as goal

pub loop-p-preserved : goal.loop-p-preserved
loop-p-preserved c = flood_turn c.args.shape c.args.free.now c.args.side c.in-Some.p c.loop-p.marks.items c.visit_around.new.marks.items
    c.loop-p.waiting.items c.pop.new.self.items c.visit_around.new.waiting.items c.in-Some.ensures.items c.loop-p.invariant c.in_ok-visit_around.ensures.spreads
