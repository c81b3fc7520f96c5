use Rattle.std.proofs.Common.{subst}
use Rattle.clause_core.specs.Formula.{HasNoSolution}
use Rattle.lrat_replay.proofs.Sound.{refutation_sound}
use Rattle.lrat_replay.proofs.replay.Refutation.formula.Goals as goal

pub returns-clause-no_solution : goal.returns-clause-no_solution
returns-clause-no_solution c = subst HasNoSolution c.self.view_is (refutation_sound c.self.inside.formula c.self.invariant.lines c.self.invariant.refutes)
