use Rattle.std.proofs.Common.{ap, ◌∙◌, sym, subst}
use Rattle.clause_solver.specs.Trail.{Track, known_by, IsVariableOf}
use Rattle.lrat_replay.specs.Marks.{room}
use Rattle.clause_solver.proofs.TrailPlaces.{number_below}
use Rattle.clause_solver.proofs.trail.Trail.has.Goals as goal

pub has-requires : goal.has-requires
has-requires c = number_below c.self.inside.vars (room c.self.inside.marks) c.args.lit (subst (λ (t : Track). IsVariableOf t.vars c.args.lit) (sym c.self.view_is) c.requires) c.self.invariant.wide

pub returns : goal.returns
returns c = c.has.ensures ∙ ap (λ k. k c.args.lit) c.self.invariant.same ∙ ap (λ (t : Track). known_by t.values c.args.lit) c.self.view_is
