use Rattle.lattice_grid.proofs.StartLaws.{telling_input}
use Rattle.lattice_grid.proofs.start.AmongTelling.tell.Goals as goal

pub returns-clause-input : goal.returns-clause-input
returns-clause-input c = telling_input c.args.self.now.literals.now c.args.on c.args.off c.telling.result c.unwrap.result c.requires.0 c.telling.ensures c.unwrap.ensures
