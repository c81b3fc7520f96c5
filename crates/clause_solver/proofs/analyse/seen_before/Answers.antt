use Rattle.std.proofs.Common.{◌∙◌, ◌-◌, sym, arith}
use Rattle.clause_solver.specs.Met.{is_met, seen_of}
use Rattle.clause_solver.proofs.SomeSeen.{some_at}
use Rattle.clause_solver.proofs.Placing.{met_late, met_witness, none_seen_more}
use Rattle.clause_solver.proofs.analyse.seen_before.Goals as goal

pub returns-then-known-place-clause-some : goal.returns-then-known-place-clause-some
returns-then-known-place-clause-some c =
    some_at c.args.trail.now.values c.args.start (seen_of c.args.met.now c.args.trail.now.values) c.args.place c.args.known c.requires.fresh c.requires.within c.if-start-known.true c.if-known-place.true c.requires.known

pub returns-then-has-clause-some : goal.returns-then-has-clause-some
returns-then-has-clause-some c =
    met_late (is_met c.args.met.now) c.args.trail.now.values c.args.start c.args.place (c.loop-below.below - 1) c.requires.fresh c.requires.within (omega (arith, c.loop-below.invariant.after, c.loop-below-test.true)) (omega (arith, c.loop-below.invariant.within, c.loop-below-test.true))
    (sym c.has.ensures ∙ c.if-has.true)

pub returns-then-has-clause-at : goal.returns-then-has-clause-at
returns-then-has-clause-at c = met_witness (is_met c.args.met.now) c.args.trail.now.values c.args.start c.args.place (c.loop-below.below - 1) c.requires.within (sym c.has.ensures ∙ c.if-has.true)

pub loop-below-preserved : goal.loop-below-preserved
loop-below-preserved c = record {
  after = omega (arith, c.loop-below.invariant.after, c.loop-below-test.true);
  within = omega (arith, c.loop-below.invariant.within);
  none = none_seen_more (is_met c.args.met.now) c.args.trail.now.values (c.loop-below.below - 1) c.loop-below.below c.args.place c.requires.fresh (omega (arith, c.loop-below.invariant.within, c.loop-below-test.true, c.requires.within)) (omega (arith, c.loop-below-test.true)) (sym c.has.ensures ∙ c.if-has.false) c.loop-below.invariant.none;
}
