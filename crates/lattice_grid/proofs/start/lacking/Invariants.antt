use Rattle.std.proofs.Common.{◌≡◌, take, None}
use Rattle.lattice_grid.specs.Start.{lacking_in}
use Rattle.lattice_grid.proofs.start.lacking.Given as goal

abbrev pub invariant-loop-on : goal.invariant-loop-on
invariant-loop-on l = lacking_in l.literals (take l.on-index l.ons) l.offs ≡ None
