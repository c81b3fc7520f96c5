use Rattle.std.proofs.Common.{subst}
use Rattle.lattice_grid.specs.Rails.{IsFull}
use Rattle.area_search.proofs.Starting.{used_full}
use Rattle.area_search.proofs.start.best_lattice.Goals as goal

pub returns-clause-used : goal.returns-clause-used
returns-clause-used g c =
    used_full _ _ c.args.rails c.args.spec.now c.args.first c.in_ok-best.best c.args.finders.now.items c.improve.new.finders.items c.in_ok-grid.field-0.dropped.items
    (subst (λ n. IsFull n c.args.rails) c.inputs.ensures.same (c.full.ensures.0 c.if-not-full.false)) c.requires.start c.in_ok-best.ensures.no_larger c.in_ok-grid.ensures.asked
