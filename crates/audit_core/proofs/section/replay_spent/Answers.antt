use Rattle.std.proofs.Common.{subst, sym, ◌∙◌, arith}
use Rattle.std.proofs.lemmas.Bool.{false≢true}
use Rattle.lrat_replay.specs.Book.{Accepts}
use Rattle.lrat_replay.specs.Learned.{AreWrittenNew}
use Rattle.audit_core.specs.Audit.{adds_of}
use Rattle.audit_core.specs.Replayed.{steps_of}
use Rattle.audit_core.proofs.ReplayLaws.{counted, miscounted}
use Rattle.audit_core.proofs.section.replay_spent.Goals.{then-not-fresh-via-then-not-fresh, then-not-fresh-via-else-not-fresh+then-len-budget}
use Rattle.audit_core.proofs.section.replay_spent.Goals as goal

pub returns-then-not-fresh-clause-refused : goal.returns-then-not-fresh-clause-refused
returns-then-not-fresh-clause-refused c _ formula same =
    miscounted formula c.args.replay.now c.args.section.now same c.args.budget (subst (λ ls. Accepts c.args.replay.now (adds_of ls)) c.deref.ensures.value c.in-Ok.ensures.accepted) c.requires.close
    (elim c.then-not-fresh.branch [
      | then-not-fresh-via-then-not-fresh w ↦ λ fresh many. false≢true (sym w.if-not-fresh.true ∙ c.in-Ok.ensures.are_new.1 (subst (λ ls. AreWrittenNew c.args.replay.now (steps_of ls)) (sym c.deref.ensures.value) fresh))
      | then-not-fresh-via-else-not-fresh+then-len-budget w ↦ λ fresh many. w.if-len-budget.true (let n = w.len.ensures in omega (arith, n, many, c.args.section.now.steps.ok.0))
    ])

pub returns-clause-right : goal.returns-clause-right
returns-clause-right c formula same =
    counted formula c.args.replay.now c.args.section.now same c.args.budget (subst (λ ls. Accepts c.args.replay.now (adds_of ls)) c.deref.ensures.value c.in-Ok.ensures.accepted) c.requires.close
    (subst (λ ls. AreWrittenNew c.args.replay.now (steps_of ls)) c.deref.ensures.value (c.in-Ok.ensures.are_new.0 c.if-not-fresh.false))
    (let n = c.len.ensures in let m = c.if-len-budget.false in omega (arith, n, m, c.args.section.now.steps.ok.0))
