use Rattle.lattice_grid.specs.Rails.{IsFull}
use Rattle.lattice_grid.proofs.rails.Rails.full.Given as goal

abbrev pub invariant-loop-input : goal.invariant-loop-input
invariant-loop-input l = IsFull l.input l.self
