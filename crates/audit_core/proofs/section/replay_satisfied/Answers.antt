use Rattle.std.proofs.Common.{subst}
use Rattle.std.proofs.lemmas.Result.{on_ok_weaker}
use Rattle.lrat_replay.specs.Book.{Accepts}
use Rattle.audit_core.specs.Audit.{adds_of}
use Rattle.audit_core.proofs.ReplayLaws.{satisfied}
use Rattle.audit_core.proofs.section.replay_satisfied.Goals as goal

pub returns-clause-right : goal.returns-clause-right
returns-clause-right c =
    on_ok_weaker c.replay_steps.result
    (λ accepted formula same. satisfied formula c.args.replay.now c.args.section.now same (subst (λ ls. Accepts c.args.replay.now (adds_of ls)) c.deref.ensures.value accepted) c.requires.close)
    c.replay_steps.ensures.accepted
