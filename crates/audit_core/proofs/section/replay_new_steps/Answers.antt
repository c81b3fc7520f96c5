use Rattle.std.proofs.Common.{◌≡◌, subst, sym, ◌∙◌}
use Rattle.lrat_replay.specs.Book.{Book, addition_fault, after_addition}
use Rattle.lrat_replay.specs.Replay.{IsFault}
use Rattle.clause_core.specs.Formula.{IsOver}
use Rattle.std.specs.Prelude.{None}
use Rattle.audit_core.proofs.StepLaws.{stops_as, replays_as, fresh_as}
use Rattle.audit_core.proofs.section.replay_new_steps.Goals as goal

pub returns-in-Err-clause-refused : goal.returns-in-Err-clause-refused
returns-in-Err-clause-refused c =
    stops_as c.args.replay.now c.loop-line.replay c.args.steps.now c.loop-line.line-index c.line-item.result c.in-Err.fault c.as_slice-in-loop-line.result.now c.as_slice-in-loop-line-2.result.now c.refusal_at.result c.loop-line-test.true c.line-item.is
    c.loop-line.invariant.replays c.as_slice-in-loop-line.ensures c.as_slice-in-loop-line-2.ensures
    (subst (λ (b : Book). IsFault (addition_fault b c.line-item.result.step.id c.as_slice-in-loop-line.result.now c.as_slice-in-loop-line-2.result.now) c.in-Err.fault) c.is_new_step-is_new.ensures.kept c.in-Err.ensures.refused)
    c.refusal_at.ensures

pub loop-line-preserved : goal.loop-line-preserved
loop-line-preserved c =
    let kept = c.is_new_step-is_new.ensures.kept in
    let fine : addition_fault c.loop-line.replay c.line-item.result.step.id c.as_slice-in-loop-line.result.now c.as_slice-in-loop-line-2.result.now ≡ None =
    subst (λ (b : Book). addition_fault b c.line-item.result.step.id c.as_slice-in-loop-line.result.now c.as_slice-in-loop-line-2.result.now ≡ None) c.is_new_step-is_new.ensures.kept c.in_default.ensures.accepted in
    let over : IsOver c.loop-line.replay.formula.vars c.as_slice-in-loop-line.result.now = subst (λ (b : Book). IsOver b.formula.vars c.as_slice-in-loop-line.result.now) c.is_new_step-is_new.ensures.kept c.in_default.ensures.over.0 in
    let same = c.as_slice-in-loop-line.ensures ∙ sym c.as_slice.ensures in
    record {
      replays = replays_as c.args.replay.now c.loop-line.replay c.step.new.self c.args.steps.now c.loop-line.line-index c.line-item.result c.as_slice-in-loop-line.result.now c.as_slice-in-loop-line-2.result.now c.loop-line-test.true c.line-item.is
          c.loop-line.invariant.replays c.as_slice-in-loop-line.ensures c.as_slice-in-loop-line-2.ensures fine
          (subst (λ (b : Book). c.step.new.self ≡ after_addition b c.line-item.result.step.id c.as_slice-in-loop-line.result.now) c.is_new_step-is_new.ensures.kept c.in_default.ensures.after);
      fresh = fresh_as c.loop-line.fresh c.is_new_step-is_new.result c.args.replay.now c.loop-line.replay c.args.steps.now c.loop-line.line-index c.line-item.result c.as_slice.result.now c.as_slice-in-loop-line-2.result.now c.loop-line-test.true c.line-item.is
          c.loop-line.invariant.replays c.as_slice.ensures c.as_slice-in-loop-line-2.ensures
          (subst (λ x. addition_fault c.loop-line.replay c.line-item.result.step.id x c.as_slice-in-loop-line-2.result.now ≡ None) same fine)
          c.loop-line.invariant.fresh (c.is_new_step-is_new.ensures.is_new (subst (IsOver c.loop-line.replay.formula.vars) same over));
    }
