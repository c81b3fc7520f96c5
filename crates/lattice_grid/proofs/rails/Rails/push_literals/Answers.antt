use Rattle.std.proofs.Common.{arith}
use Rattle.lattice_grid.proofs.RailsLaws.{literals_pushed}
use Rattle.lattice_grid.proofs.rails.Rails.push_literals.Goals as goal

pub loop-input-preserved : goal.loop-input-preserved
loop-input-preserved g c = record {
  items = literals_pushed c.loop-input.input c.args.self c.args.found.now.items _ _ _ c.loop-input.invariant.items c.push_allowed.ensures.items c.push_allowed-in-loop-input.ensures.items;
  len = omega arith;
}
