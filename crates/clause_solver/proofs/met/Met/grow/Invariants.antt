use Rattle.std.proofs.Common.{◌-◌, length}
use Rattle.clause_solver.proofs.met.Met.grow.Given as goal

abbrev pub decreases-loop-self : goal.decreases-loop-self
decreases-loop-self l = l.count - length l.self.stamps.items
