use Rattle.std.proofs.Common.{refl}
use Rattle.clause_solver.proofs.Lists.{settled_none}
use Rattle.clause_solver.proofs.watch.Watches.pass_over.Goals as goal

pub returns : goal.returns
returns c = settled_none c.args.self.now _ refl refl c.in_ok-push.ensures.items
