use Rattle.std.proofs.Common.{◌∙◌, sym, ap, inl, inr, arith}
use Rattle.std.proofs.lemmas.Result.{MatchResult-weaker}
use Rattle.lrat_replay.specs.Book.{live, run, fault_of_outcome, some_above}
use Rattle.lrat_replay.proofs.DenyLaws.{order-fault, variable-fault, tautology-fault, hints-fault}
use Rattle.lrat_replay.proofs.replay.test.Goals as goal
use Rattle.lrat_replay.proofs.replay.test.Goals.{then-id-last_id-via-then-id-last_id, then-id-last_id-via-else-id-last_id+then-id-gt-MOST}

pub returns-then-id-last_id-clause-refused : goal.returns-then-id-last_id-clause-refused
returns-then-id-last_id-clause-refused c = order-fault c.args.store.now c.args.id c.args.clause.now c.args.hints.now (elim c.then-id-last_id.branch [
  | then-id-last_id-via-then-id-last_id w ↦ inl (omega (arith, c.last_id.ensures, w.if-id-last_id.true))
  | then-id-last_id-via-else-id-last_id+then-id-gt-MOST w ↦ inr (omega (arith, w.if-id-gt-MOST.true))
])

pub returns-then-is_above-clause-refused : goal.returns-then-is_above-clause-refused
returns-then-is_above-clause-refused c =
    variable-fault c.args.store.now c.args.id c.args.clause.now c.args.hints.now (omega (arith, c.last_id.ensures, c.if-id-last_id.false)) (omega (arith, c.if-id-gt-MOST.false))
    (ap (λ n. some_above n c.args.clause.now) (sym (c.vars-vars.ensures.value ∙ ap (λ f. f.vars) c.formula.ensures)) ∙ sym c.is_above.ensures.value ∙ c.if-is_above.true)

pub returns-then-deny-clause-refused : goal.returns-then-deny-clause-refused
returns-then-deny-clause-refused c =
    tautology-fault c.args.store.now c.args.id c.args.clause.now c.args.hints.now (omega (arith, c.last_id.ensures, c.if-id-last_id.false)) (omega (arith, c.if-id-gt-MOST.false))
    (ap (λ n. some_above n c.args.clause.now) (sym (c.vars-vars.ensures.value ∙ ap (λ f. f.vars) c.formula.ensures)) ∙ sym c.is_above.ensures.value ∙ c.if-is_above.false)
    (sym c.deny.ensures.value ∙ c.if-deny.true)

pub returns-clause-accepted : goal.returns-clause-accepted
returns-clause-accepted c =
    let e = hints-fault c.args.store.now c.args.id c.args.clause.now c.args.hints.now (omega (arith, c.last_id.ensures, c.if-id-last_id.false)) (omega (arith, c.if-id-gt-MOST.false))
    (ap (λ n. some_above n c.args.clause.now) (sym (c.vars-vars.ensures.value ∙ ap (λ f. f.vars) c.formula.ensures)) ∙ sym c.is_above.ensures.value ∙ c.if-is_above.false)
    (sym c.deny.ensures.value ∙ c.if-deny.false)
    ∙ ap (λ k. fault_of_outcome (run (live c.args.store.now) k c.args.hints.now)) (sym (c.deny.ensures.denied c.if-deny.false)) in
    MatchResult-weaker c.follow.result c.follow.ensures.outcome (λ _ p. e ∙ p) (λ _ _. tt)

pub returns-clause-refused : goal.returns-clause-refused
returns-clause-refused c =
    let e = hints-fault c.args.store.now c.args.id c.args.clause.now c.args.hints.now (omega (arith, c.last_id.ensures, c.if-id-last_id.false)) (omega (arith, c.if-id-gt-MOST.false))
    (ap (λ n. some_above n c.args.clause.now) (sym (c.vars-vars.ensures.value ∙ ap (λ f. f.vars) c.formula.ensures)) ∙ sym c.is_above.ensures.value ∙ c.if-is_above.false)
    (sym c.deny.ensures.value ∙ c.if-deny.false)
    ∙ ap (λ k. fault_of_outcome (run (live c.args.store.now) k c.args.hints.now)) (sym (c.deny.ensures.denied c.if-deny.false)) in
    MatchResult-weaker c.follow.result c.follow.ensures.outcome (λ _ _. tt) (λ _ p. e ∙ p)
