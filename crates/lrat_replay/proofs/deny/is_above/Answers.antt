use Rattle.std.proofs.Common.{◌≤◌, ◌∙◌, subst}
use Rattle.std.proofs.lemmas.List.{take_all}
use Rattle.clause_core.specs.Formula.{IsOver}
use Rattle.lrat_replay.proofs.DenyLaws.{over_more, above_more}
use Rattle.lrat_replay.proofs.deny.is_above.Goals as goal

pub loop-lit-preserved : goal.loop-lit-preserved
loop-lit-preserved c =
    let counted = subst (λ n. 1 ≤ n) c.var.ensures.value c.var.ensures.counted in
    let within = subst (λ n. n ≤ c.args.vars) c.var.ensures.value c.if-var-vars.false in
    record {
      rest = above_more c.args.clause.now c.loop-lit.lit-index c.lit-item.result c.loop-lit-test.true c.lit-item.is c.args.vars within ∙ c.loop-lit.invariant.rest;
      over = over_more c.args.clause.now c.loop-lit.lit-index c.lit-item.result c.loop-lit-test.true c.lit-item.is c.args.vars c.loop-lit.invariant.over counted within;
    }

pub returns-clause-over : goal.returns-clause-over
returns-clause-over c = λ _. subst (IsOver c.args.vars) (take_all c.loop-lit.lit-index c.args.clause.now c.loop-lit-test.false) c.loop-lit.invariant.over
