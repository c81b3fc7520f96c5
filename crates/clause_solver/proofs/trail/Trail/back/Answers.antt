use Rattle.std.proofs.Common.{◌≡◌, ◌<◌, ◌∷◌, length, ap, ◌∙◌, sym, arith}
use Rattle.clause_solver.specs.Trail.{Track}
use Rattle.clause_solver.proofs.TrailPlaces.{oldest-rest}
use Rattle.clause_solver.proofs.trail.Trail.back.Goals as goal

pub loop-self-preserved : goal.loop-self-preserved
loop-self-preserved c =
    let popped = c.pop.ensures in
    let values_is : c.loop-self.self.values ≡ popped.0 ∷ c.pop.new.self.values = ap (λ (t : Track). t.values) popped.1 in
    let long = ap length values_is in
    let here : c.args.place < c.len.result = c.loop-self-test.true in
    let count = c.len.ensures.count in
    record {
      within = omega arith;
      vars_is = sym (ap (λ (t : Track). t.vars) popped.1) ∙ c.loop-self.invariant.vars_is;
      values_are = oldest-rest c.args.self.now.values c.loop-self.self.values c.pop.new.self.values popped.0 values_is c.loop-self.invariant.values_are;
    }
