use Rattle.std.proofs.Common.{◌≤◌}
use Rattle.finder_set.specs.Splitting.{area_put}
use Rattle.finder_set.proofs.SplitLaws.{put_beside, put_below}
use Rattle.finder_set.proofs.split.put.Goals as goal
use Rattle.finder_set.proofs.split.put.Goals.{in-On+in_ok-grid-in-On, in-Off+in_ok-grid-in-Off}

pub returns : goal.returns
returns c =
    let room : area_put c.args.side c.args.first.now.size c.args.other.now.size ≤ 1048576 = rw (c.shape.ensures, c.shape-2.ensures) at (c.has_room.ensures.0 c.if-not-has_room.false) in
    elim c.match-side.branch [
      | in-On+in_ok-grid-in-On w ↦ rw w.grid-is (put_beside c.args.side _ _ _ w.in-On.is room w.in_ok-grid-in-On.ensures.cells w.in_ok-grid-in-On.ensures.joined w.in_ok-grid-in-On.ensures.over)
      | in-Off+in_ok-grid-in-Off w ↦ rw w.grid-is (put_below c.args.side _ _ _ w.in-Off.is room w.in_ok-grid-in-Off.ensures.cells w.in_ok-grid-in-Off.ensures.joined w.in_ok-grid-in-Off.ensures.over)
    ]
