use Rattle.std.proofs.Common.{refl, false}
use Rattle.clause_solver.proofs.Lists.{turned}
use Rattle.clause_solver.proofs.watch.Watches.turn.Goals as goal

pub returns : goal.returns
returns c = turned c.args.self.now c.add.new.self c.remove.new.self _ c.args.lost c.args.index c.args.place (record { one = c.args.one; two = c.args.two; is_whole = false }) c.requires.inside c.requires.at c.requires.settled c.requires.apart c.in_ok-add.ensures c.remove.ensures refl refl
