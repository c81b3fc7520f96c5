use Rattle.std.specs.Prelude.{◌≡◌, ◌≤◌, ◌-◌}
use Rattle.std.specs.Option.{unwrap_or}
use Rattle.finder_set.specs.Finders.{area_of}
use Rattle.finder_set.proofs.ShrinkingLaws.{IsShrinking}
use Rattle.finder_set.proofs.shrink.shrunk.Given as goal

abbrev pub invariant-loop-place : goal.invariant-loop-place
invariant-loop-place l = record {
  shrinking : IsShrinking l.change l.spec l.best l.place l.smaller;
  room : area_of (unwrap_or l.smaller l.best) ≤ l.trial;
  same : l.trial ≡ l.initial.trial;
}

abbrev pub decreases-loop-place : goal.decreases-loop-place
decreases-loop-place l = area_of (unwrap_or l.smaller l.best) - l.place
