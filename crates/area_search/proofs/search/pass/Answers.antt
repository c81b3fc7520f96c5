use Rattle.std.proofs.Common.{◌*◌, ◌<◌, refl, sym, ◌∙◌, subst, arith}
use Rattle.std.specs.Prelude.{All}
use Rattle.std.proofs.lemmas.Bool.{false≢true}
use Rattle.std.proofs.lemmas.List.{take_all}
use Rattle.std.proofs.lemmas.List.Elements.{All-nil}
use Rattle.lattice_grid.specs.Lattice.{Lattice}
use Rattle.lattice_grid.specs.Rectangle.{Size}
use Rattle.shape_list.specs.Shapes.{IsHeld}
use Rattle.journal_text.specs.Least.{area}
use Rattle.area_search.proofs.Passing.{step_small, held_next, held_refuted, covered_all}
use Rattle.area_search.proofs.search.pass.Goals as goal

pub loop-shape-init : goal.loop-shape-init
loop-shape-init g c = record {
  whole = c.requires.whole;
  known = c.requires.known;
  held = All-nil (IsHeld c.args.progress.now.refuted);
  best = refl;
  least = refl;
  given_up = refl;
  written = λ first h. h;
  later = omega arith;
}

pub loop-shape-preserved-then-holds : goal.loop-shape-preserved-then-holds
loop-shape-preserved-then-holds g c =
    let i = c.loop-shape.invariant in
    record {
      whole = i.whole;
      known = i.known;
      held = held_next c.loop-shape.progress.refuted c.deref-shape-items.result.now c.loop-shape.shape-index c.shape-item.result c.loop-shape-test.true c.shape-item.is i.held (c.holds.ensures.0 c.if-holds.true);
      best = i.best;
      least = i.least;
      given_up = i.given_up;
      written = i.written;
      later = i.later;
    }

pub take_turn-requires-clause-whole : goal.take_turn-requires-clause-whole
take_turn-requires-clause-whole g c = c.loop-shape.invariant.whole

pub take_turn-requires-clause-known : goal.take_turn-requires-clause-known
take_turn-requires-clause-known g c = c.loop-shape.invariant.known

pub take_turn-requires-clause-smaller : goal.take_turn-requires-clause-smaller
take_turn-requires-clause-smaller g c =
    let small = step_small c.args.most c.in-Ok.shapes.items c.deref-shape-items.result.now c.loop-shape.shape-index c.shape-item.result c.in-Ok.ensures.steps c.deref-shape-items.ensures.value c.loop-shape-test.true c.shape-item.is in
    subst (λ (b : Lattice). c.shape-item.result.rows * c.shape-item.result.cols < area b) (sym c.loop-shape.invariant.best) (omega (arith, small, c.requires.smaller))

pub returns-in-Ok-Better-default-clause-passed : goal.returns-in-Ok-Better-default-clause-passed
returns-in-Ok-Better-default-clause-passed g c =
    let turned = rw c.in-Ok-Better-default.field-0-0-is at c.in-Ok-Better-default.ensures.turned in
    let i = c.loop-shape.invariant in
    let small = step_small c.args.most c.in-Ok.shapes.items c.deref-shape-items.result.now c.loop-shape.shape-index c.shape-item.result c.in-Ok.ensures.steps c.deref-shape-items.ensures.value c.loop-shape-test.true c.shape-item.is in
    (subst (λ (s : Size). s.rows * s.cols < area c.args.progress.now.best) (sym turned.0) (omega (arith, small, c.requires.smaller)), turned.2 ∙ i.least, turned.3 ∙ i.given_up)

pub returns-in-Ok-Better-default-clause-written : goal.returns-in-Ok-Better-default-clause-written
returns-in-Ok-Better-default-clause-written g c first h = c.in-Ok-Better-default.ensures.written first (c.loop-shape.invariant.written first h)

pub returns-in-Ok-Better-default-clause-later : goal.returns-in-Ok-Better-default-clause-later
returns-in-Ok-Better-default-clause-later g c = omega (arith, c.loop-shape.invariant.later, c.in-Ok-Better-default.ensures.later)

pub returns-in-Ok-GivenUp-default-clause-passed : goal.returns-in-Ok-GivenUp-default-clause-passed
returns-in-Ok-GivenUp-default-clause-passed g c =
    let turned = rw c.in-Ok-GivenUp-default.field-0-0-is at c.in-Ok-GivenUp-default.ensures.turned in
    let i = c.loop-shape.invariant in
    let small = step_small c.args.most c.in-Ok.shapes.items c.deref-shape-items.result.now c.loop-shape.shape-index c.shape-item.result c.in-Ok.ensures.steps c.deref-shape-items.ensures.value c.loop-shape-test.true c.shape-item.is in
    (turned.0, small, (λ held. false≢true (sym c.if-holds.false ∙ c.holds.ensures.1 (subst (λ members. IsHeld members c.shape-item.result) turned.1 held))), turned.2 ∙ i.best, turned.3 ∙ i.least)

pub returns-in-Ok-GivenUp-default-clause-written : goal.returns-in-Ok-GivenUp-default-clause-written
returns-in-Ok-GivenUp-default-clause-written g c first h = c.in-Ok-GivenUp-default.ensures.written first (c.loop-shape.invariant.written first h)

pub returns-in-Ok-GivenUp-default-clause-later : goal.returns-in-Ok-GivenUp-default-clause-later
returns-in-Ok-GivenUp-default-clause-later g c = omega (arith, c.loop-shape.invariant.later, c.in-Ok-GivenUp-default.ensures.later)

pub returns-in-Err-clause-stopped : goal.returns-in-Err-clause-stopped
returns-in-Err-clause-stopped g c first faults h earlier = c.in-Err.ensures.stopped first faults (c.loop-shape.invariant.written first h) (omega (arith, earlier, c.loop-shape.invariant.later))

pub loop-shape-preserved : goal.loop-shape-preserved
loop-shape-preserved g c =
    let e = c.in-Ok-Refuted-default.ensures in
    let turned = rw c.in-Ok-Refuted-default.field-0-0-is at c.in-Ok-Refuted-default.ensures.turned in
    let i = c.loop-shape.invariant in
    record {
      whole = c.in-Ok-Refuted-default.ensures.whole;
      known = c.in-Ok-Refuted-default.ensures.known;
      held = held_refuted c.loop-shape.progress.refuted c.take_turn.new.progress.refuted c.deref-shape-items.result.now c.loop-shape.shape-index c.shape-item.result turned.0 c.loop-shape-test.true c.shape-item.is i.held;
      best = turned.1 ∙ i.best;
      least = turned.2 ∙ i.least;
      given_up = turned.3 ∙ i.given_up;
      written = λ first h. c.in-Ok-Refuted-default.ensures.written first (i.written first h);
      later = omega (arith, i.later, c.in-Ok-Refuted-default.ensures.later);
    }

pub returns-clause-whole : goal.returns-clause-whole
returns-clause-whole g c = c.loop-shape.invariant.whole

pub returns-clause-known : goal.returns-clause-known
returns-clause-known g c = c.loop-shape.invariant.known

pub returns-clause-passed : goal.returns-clause-passed
returns-clause-passed g c =
    let i = c.loop-shape.invariant in
    let items = c.deref-shape-items.result.now in
    let whole : All (IsHeld c.loop-shape.progress.refuted) items = subst (All (IsHeld c.loop-shape.progress.refuted)) (take_all c.loop-shape.shape-index items c.loop-shape-test.false) i.held in
    (covered_all c.loop-shape.progress.refuted c.in-Ok.shapes.items items c.args.most c.in-Ok.ensures.covers c.deref-shape-items.ensures.value whole, i.best, i.least, i.given_up)

pub returns-clause-written : goal.returns-clause-written
returns-clause-written g c = c.loop-shape.invariant.written

pub returns-clause-later : goal.returns-clause-later
returns-clause-later g c = c.loop-shape.invariant.later
