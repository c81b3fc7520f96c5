use Rattle.std.proofs.Common.{◌≡◌}
use Rattle.finder_set.specs.Finders.{area_of, IsRightWithin}
use Rattle.finder_set.proofs.Asking.{IsAsking}
use Rattle.finder_set.proofs.improve.improve.Given as goal

abbrev pub invariant-loop-place : goal.invariant-loop-place
invariant-loop-place g l =
    IsRightWithin l.spec (area_of l.fn.best) l.best
    × IsAsking (λ finder. (goal.Finder-dyn g (finder.vtable, finder.value)).begun finder.value) (λ finder. (goal.Finder-dyn g (finder.vtable, finder.value)).left finder.value) l.spec (area_of l.fn.best) l.fn.finders.items l.finders.items l.asked l.place l.dropped.items
    × (l.marks ≡ l.fn.marks)
