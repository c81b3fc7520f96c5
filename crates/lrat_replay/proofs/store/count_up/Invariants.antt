use Rattle.std.proofs.Common.{◌≡◌}
use Rattle.lrat_replay.specs.Store.{counted}
use Rattle.lrat_replay.proofs.store.count_up.Given as goal

abbrev pub invariant-loop-before : goal.invariant-loop-before
invariant-loop-before l = l.ids.items ≡ counted 1 l.before
