use Rattle.std.proofs.Common.{◌≡◌, ◌≤◌, ◌<◌, ◌∙◌, sym, ap, subst, arith, true, get_or, length}
use Rattle.clause_core.specs.Literal.{Literal}
use Rattle.clause_solver.specs.Trail.{Track, known_by, IsVariableOf, StandsAt}
use Rattle.clause_solver.proofs.Placing.{stands, read_is}
use Rattle.clause_solver.proofs.trail.Trail.place.Goals as goal

pub returns : goal.returns
returns c = λ k.
    let places = c.self.inside.places.items in
    let variable = subst (λ (x : Track). IsVariableOf x.vars c.args.lit) (sym c.self.view_is) c.requires in
    let inside : c.var.result < length places = omega (arith, variable.within, c.self.invariant.spread, c.var.ensures.value) in
    let read = read_is places c.var.result c.index.result.now inside c.index.ensures ∙ ap (λ n. get_or places n 0) c.var.ensures.value in
    subst (λ (x : Track). StandsAt x.values c.args.lit c.index.result.now) c.self.view_is
    (subst (StandsAt _ c.args.lit) (sym read) (stands places _ c.args.lit c.self.invariant.placed (subst (λ (x : Track). known_by x.values c.args.lit ≡ true) (sym c.self.view_is) k)))
