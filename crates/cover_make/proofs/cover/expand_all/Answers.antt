use Rattle.std.proofs.Common.{ap, ◌∙◌, ◌+◌, refl}
use Rattle.std.specs.FinSet as set
use Rattle.cover_make.proofs.ExpansionsLaws.{IsFoundBelow-more, IsFoundBelow-all, left-smaller}
use Rattle.cover_make.proofs.cover.expand_all.Goals as goal

pub loop-x-smaller : goal.loop-x-smaller
loop-x-smaller c = left-smaller c.args.inputs c.args.need.now c.args.room.now _ _ _ _ _ _ c.requires.below c.loop-x.invariant.1 c.in-Some.ensures.some
    c.expand-cube.ensures (c.minus-left.ensures ∙ ap (set.difference c.loop-x.left) c.of_cube.ensures)

pub loop-x-preserved : goal.loop-x-preserved
loop-x-preserved c = (
  c.in-Some.x + 1,
  rw c.in_ok-push.ensures.items
      (IsFoundBelow-more c.args.inputs c.args.need.now c.args.room.now _ _ _ _ _ _ c.requires.below c.loop-x.invariant.1 c.in-Some.ensures.some
      c.expand-cube.ensures (c.minus-left.ensures ∙ ap (set.difference c.loop-x.left) c.of_cube.ensures)),
)

pub returns : goal.returns
returns c = IsFoundBelow-all c.args.inputs c.args.need.now c.args.room.now _ _ _ c.loop-x.invariant.1 (c.in_default.ensures.none.0 refl)
