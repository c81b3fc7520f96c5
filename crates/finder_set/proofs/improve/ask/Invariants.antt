use Rattle.std.proofs.Common.{◌≡◌}
use Rattle.finder_set.specs.Finders.{area_of, IsRightWithin}
use Rattle.wire_io.specs.Causes.{Rose}
use Rattle.finder_set.proofs.improve.ask.Given as goal

-- The best lattice is right and no larger, and the finder was begun.
abbrev pub invariant-loop-finder : goal.invariant-loop-finder
invariant-loop-finder g l =
    IsRightWithin l.spec (area_of l.initial.best) l.best
    × Rose ((goal.Finder-dyn g (l.fn.finder.vtable, l.fn.finder.value)).begun l.fn.finder.value) ((goal.Finder-dyn g (l.finder.vtable, l.finder.value)).begun l.finder.value)
    × (l.marks ≡ l.initial.marks)

-- how many proposals the finder may still be asked for
abbrev pub decreases-loop-finder : goal.decreases-loop-finder
decreases-loop-finder g l = (goal.Finder-dyn g (l.finder.vtable, l.finder.value)).left l.finder.value
