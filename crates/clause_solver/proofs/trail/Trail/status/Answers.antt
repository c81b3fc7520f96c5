use Rattle.std.proofs.Common.{ap, ◌∙◌, sym, subst}
use Rattle.clause_core.specs.Formula.{IsOver}
use Rattle.lrat_replay.specs.Status.{status}
use Rattle.lrat_replay.specs.Marks.{room}
use Rattle.lrat_replay.proofs.Tools.{fits_over}
use Rattle.clause_solver.specs.Trail.{Track, known_by}
use Rattle.clause_solver.proofs.trail.Trail.status.Goals as goal

pub status_of-requires : goal.status_of-requires
status_of-requires c = fits_over c.self.inside.vars (room c.self.inside.marks) c.args.clause.now (subst (λ (t : Track). IsOver t.vars c.args.clause.now) (sym c.self.view_is) c.requires) c.self.invariant.wide

pub returns : goal.returns
returns c = c.status_of.ensures.value ∙ ap (λ k. status k c.args.clause.now) c.self.invariant.same ∙ ap (λ (t : Track). status (known_by t.values) c.args.clause.now) c.self.view_is
