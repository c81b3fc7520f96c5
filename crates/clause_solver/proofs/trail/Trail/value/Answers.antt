use Rattle.std.proofs.Common.{◌<◌, ◌∙◌, sym, ap, subst, length}
use Rattle.std.proofs.lemmas.List.{length-reverse}
use Rattle.clause_solver.specs.Trail.{Track}
use Rattle.clause_solver.proofs.TrailPlaces.{IsValueAt, value_at}
use Rattle.clause_solver.proofs.trail.Trail.value.Goals as goal

pub returns : goal.returns
returns c =
    let items = c.self.inside.values.items in
    let inside : c.args.place < length items = subst (λ n. c.args.place < n) (sym (ap (λ (t : Track). length t.values) c.self.view_is) ∙ length-reverse items) c.requires in
    let at = value_at items c.self.inside.vars c.args.place c.index.result.now inside c.index.ensures c.self.invariant.fresh c.self.invariant.over in
    let r = subst (λ (t : Track). IsValueAt t c.args.place c.index.result.now) c.self.view_is at in
    record { is = r.is; fresh = r.fresh; variable = r.variable }
