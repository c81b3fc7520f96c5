use Rattle.std.proofs.Common.{◌≡◌, ◌+◌, ◌*◌, ◌≤◌, ◌++◌}
use Rattle.arrayvec.specs.ArrayVec.{array_vec_len}
use Rattle.lattice_grid.specs.Rails.{literals_of}
use Rattle.lattice_grid.proofs.rails.Rails.push_literals.Given as goal

abbrev pub invariant-loop-input : goal.invariant-loop-input
invariant-loop-input g l = record {
  items : l.found.items ≡ l.initial.found.items ++ literals_of l.input l.self;
  len : array_vec_len l.found ≤ array_vec_len l.initial.found + 2 * l.input;
}
