use Rattle.std.proofs.Common.{subst, ap, ◌∙◌}
use Rattle.lrat_replay.specs.Book.{Accepts, after_lines}
use Rattle.audit_core.specs.Audit.{adds_of}
use Rattle.audit_core.proofs.ReplayLaws.{finished, unfinished}
use Rattle.audit_core.proofs.section.replay_refuted.Goals as goal

pub returns-then-not-reached-clause-refused : goal.returns-then-not-reached-clause-refused
returns-then-not-reached-clause-refused c _ formula same =
    unfinished formula c.args.replay.now c.args.section.now same c.replay_steps.new.replay c.reached.result (subst (λ ls. Accepts c.args.replay.now (adds_of ls)) c.deref.ensures.value c.in_default.ensures.accepted)
    (c.in_default.ensures.after ∙ ap (λ ls. after_lines c.args.replay.now (adds_of ls)) c.deref.ensures.value) c.reached.ensures.value c.requires.close c.if-not-reached.true

pub returns-clause-right : goal.returns-clause-right
returns-clause-right c formula same =
    finished formula c.args.replay.now c.args.section.now same c.replay_steps.new.replay c.reached.result (subst (λ ls. Accepts c.args.replay.now (adds_of ls)) c.deref.ensures.value c.in_default.ensures.accepted)
    (c.in_default.ensures.after ∙ ap (λ ls. after_lines c.args.replay.now (adds_of ls)) c.deref.ensures.value) c.reached.ensures.value c.requires.close c.if-not-reached.false
