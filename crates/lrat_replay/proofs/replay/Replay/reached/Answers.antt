use Rattle.std.proofs.Common.{◌≡◌, ◌↔◌, true, subst}
use Rattle.lrat_replay.specs.Laws.{AddsEmpty}
use Rattle.lrat_replay.proofs.ReplayLaws.{adds_exactly}
use Rattle.lrat_replay.proofs.replay.Replay.reached.Goals as goal

pub returns-clause-exactly : goal.returns-clause-exactly
returns-clause-exactly c = subst (λ b. (c.self.inside.reached ≡ true) ↔ AddsEmpty b) c.self.view_is (adds_exactly c.self.inside.store c.self.inside.reached c.self.invariant.history c.self.invariant.reaches)
