use Rattle.std.proofs.Common.{◌≡◌}
use Rattle.cover_make.specs.Literals.{point_of}
use Rattle.cover_make.specs.Cover.{expansion}
use Rattle.cover_make.proofs.cover.expand.Given as goal

abbrev pub invariant-loop-input : goal.invariant-loop-input
invariant-loop-input l = l.cube ≡ expansion l.inputs l.room (point_of l.inputs l.fn.x) l.input
