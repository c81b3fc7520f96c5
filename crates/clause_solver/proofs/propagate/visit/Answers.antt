use Rattle.std.proofs.Common.{refl, sym, ◌∙◌}
use Rattle.clause_solver.proofs.Visits.{blocker_variable, visiting_blocked}
use Rattle.clause_solver.proofs.propagate.visit.Goals as goal

pub has-requires : goal.has-requires
has-requires c = blocker_variable c.args.work.now c.args.lost c.args.index c.listed-entry.result.place c.requires.visiting c.listed-entry.ensures.place c.listed-entry.result c.listed-entry.ensures.entry refl

pub returns-then-has-clause-visiting : goal.returns-then-has-clause-visiting
returns-then-has-clause-visiting c = visiting_blocked c.args.work.now c.args.lost c.args.index c.listed-entry.result.place c.requires.visiting c.listed-entry.ensures.place c.listed-entry.result c.listed-entry.ensures.entry refl (sym c.has.ensures ∙ c.if-has.true)
