use Rattle.std.proofs.Common.{◌<◌, ◌≤◌, ◌∙◌, subst, arith}
use Rattle.std.specs.Option.{unwrap_or}
use Rattle.finder_set.specs.Shrinking.{places_of}
use Rattle.finder_set.specs.Tried.{IsTaken, IsLeft}
use Rattle.lattice_grid.specs.Lattice.{Lattice}
use Rattle.lattice_grid.specs.Rectangle.{IsSize}
use Rattle.finder_set.proofs.ShrinkingLaws.{IsShrinking-takes, IsShrinking-leaves, IsShrinking-ends, tried-taken, tried-left, places_of-few}
use Rattle.finder_set.proofs.shrink.shrunk.Goals as goal

pub loop-place-smaller-in-Some : goal.loop-place-smaller-in-Some
loop-place-smaller-in-Some c =
    let now : Lattice = unwrap_or c.loop-place.smaller c.args.best.now in
    let taken : IsTaken c.args.change c.args.spec.now c.loop-place.place now c.in-Some.less = tried-taken _ _ _ _ _ _ _ c.current-in-loop-place.ensures c.in-Some.is c.in_ok-less.ensures.tried in
    let size : IsSize now.size = subst (λ (g : Lattice). IsSize g.size) c.current.ensures c.places.ensures.size in
    let within : c.loop-place.place < places_of c.args.change now = subst (λ (g : Lattice). c.loop-place.place < places_of c.args.change g) c.current.ensures (omega (arith, c.places.ensures.same, c.loop-place-test.true)) in
    omega (arith, taken.right.smaller, places_of-few c.args.change now size, within)

pub loop-place-preserved-in-Some : goal.loop-place-preserved-in-Some
loop-place-preserved-in-Some c =
    let now : Lattice = unwrap_or c.loop-place.smaller c.args.best.now in
    let taken : IsTaken c.args.change c.args.spec.now c.loop-place.place now c.in-Some.less = tried-taken _ _ _ _ _ _ _ c.current-in-loop-place.ensures c.in-Some.is c.in_ok-less.ensures.tried in
    let within : c.loop-place.place < places_of c.args.change now = subst (λ (g : Lattice). c.loop-place.place < places_of c.args.change g) c.current.ensures (omega (arith, c.places.ensures.same, c.loop-place-test.true)) in
    record {
      shrinking = IsShrinking-takes _ _ _ _ _ _ c.loop-place.invariant.shrinking within taken;
      room = omega (arith, taken.right.smaller, c.loop-place.invariant.room, c.in_ok-less.ensures.cells);
      same = c.in_ok-less.ensures.cells ∙ c.loop-place.invariant.same;
    }

pub loop-place-preserved : goal.loop-place-preserved
loop-place-preserved c =
    let now : Lattice = unwrap_or c.loop-place.smaller c.args.best.now in
    let left : IsLeft c.args.change c.args.spec.now c.loop-place.place now = tried-left _ _ _ _ _ _ c.current-in-loop-place.ensures c.in-None.is c.in_ok-less.ensures.tried in
    let within : c.loop-place.place < places_of c.args.change now = subst (λ (g : Lattice). c.loop-place.place < places_of c.args.change g) c.current.ensures (omega (arith, c.places.ensures.same, c.loop-place-test.true)) in
    record {
      shrinking = IsShrinking-leaves _ _ _ _ _ c.loop-place.invariant.shrinking within left;
      room = omega (arith, c.loop-place.invariant.room, c.in_ok-less.ensures.cells);
      same = c.in_ok-less.ensures.cells ∙ c.loop-place.invariant.same;
    }

pub returns-clause-shrinks : goal.returns-clause-shrinks
returns-clause-shrinks c =
    let now : Lattice = unwrap_or c.loop-place.smaller c.args.best.now in
    let past : places_of c.args.change now ≤ c.loop-place.place = subst (λ (g : Lattice). places_of c.args.change g ≤ c.loop-place.place) c.current.ensures (omega (arith, c.places.ensures.same, c.loop-place-test.false)) in
    IsShrinking-ends _ _ _ _ _ c.loop-place.invariant.shrinking past
