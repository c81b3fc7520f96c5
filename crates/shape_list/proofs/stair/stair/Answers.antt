use Rattle.std.proofs.Common.{◌+◌, subst, sym}
use Rattle.shape_list.proofs.StairLaws.{IsStairTo, stair_more, stair_whole, stair_covers}
use Rattle.shape_list.proofs.stair.stair.Goals as goal

pub loop-rows-preserved : goal.loop-rows-preserved
loop-rows-preserved c =
    subst (λ r. IsStairTo c.args.area (r + 1) c.push.new.self.items) (sym c.rows-rows.ensures.same)
    (stair_more c.args.area c.loop-rows.rows c.loop-rows.shapes.items c.push.new.self.items c.step_from-step.result c.loop-rows.invariant
    c.step_from-step.ensures.step c.step_from-step.ensures.rows c.step_from-step.ensures.covers c.in_ok-push.ensures.items)

pub returns-clause-steps : goal.returns-clause-steps
returns-clause-steps c = stair_whole c.args.area c.loop-rows.rows c.loop-rows.shapes.items c.loop-rows-test.false c.loop-rows.invariant

pub returns-clause-covers : goal.returns-clause-covers
returns-clause-covers c = stair_covers c.args.area c.loop-rows.shapes.items c.requires.few (stair_whole c.args.area c.loop-rows.rows c.loop-rows.shapes.items c.loop-rows-test.false c.loop-rows.invariant)
