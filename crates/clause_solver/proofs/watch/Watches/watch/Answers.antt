use Rattle.std.proofs.Common.{refl, ◌∙◌}
use Rattle.clause_solver.proofs.Lists.{settled_some}
use Rattle.clause_solver.proofs.watch.Watches.watch.Goals as goal

pub returns : goal.returns
returns c = settled_some c.args.self.now _ c.add.new.self c.add-2.new.self (record { one = c.args.one; two = c.args.two; is_whole = c.args.is_whole }) c.len-place.result (c.len-place.ensures ∙ c.args.self.now.pairs.ok.0) refl c.in_ok-push.ensures.items c.in_ok-add.ensures c.in_ok-add-2.ensures
