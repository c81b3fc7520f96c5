use Rattle.std.proofs.Common.{◌≡◌, ◌+◌, ◌-◌, reverse, map, [], ◌∷◌, ◌++◌, ◌∙◌, refl, sym, ap, subst, arith, pos, inl, inr}
use Rattle.lrat_replay.specs.Book.{run, denied, Accepted}
use Rattle.clause_solver.specs.Plain.{at_of}
use Rattle.clause_solver.specs.Met.{seen_of}
use Rattle.clause_solver.proofs.Propagation.{all_over}
use Rattle.clause_solver.proofs.AnalyseLaws.{last, AreNumbers, numbers_reverse}
use Rattle.clause_solver.proofs.AnalysisSteps.{IsAnalysis, analysis_first, analysis_last, analysis_led}
use Rattle.clause_solver.proofs.AnalysisPlaces.{conflict_false, place_pass, place_reason, place_others, place_resolve, place_keep}
use Rattle.clause_solver.proofs.SomeSeen.{witness_more}
use Rattle.clause_solver.proofs.Steps.{false_over}
use Rattle.clause_solver.proofs.analyse.analyse.Goals as goal

pub mark-requires-clause-over : goal.mark-requires-clause-over
mark-requires-clause-over c = all_over c.args.trail.now.vars c.args.clauses.now c.args.conflict c.clause.result.now c.requires.over c.clause.ensures

pub mark-requires-clause-is_false : goal.mark-requires-clause-is_false
mark-requires-clause-is_false c = conflict_false c.args.clauses.now c.args.trail.now.values c.args.conflict c.clause.result.now c.requires.conflict c.clause.ensures

pub mark-requires-clause-room : goal.mark-requires-clause-room
mark-requires-clause-room c = omega (arith, c.in_ok-begin.ensures.room, c.len-place.ensures.count)

pub loop-place-init : goal.loop-place-init
loop-place-init c = record {
  within = omega (arith, c.len-place.ensures.count);
  room_is = omega (arith, c.in_ok-begin.ensures.room, c.len-place.ensures.count, c.mark.ensures.room);
  witness = λ a b v is. absurd (omega arith);
  analysis = subst (λ n. IsAnalysis c.args.clauses.now c.args.trail.now.values c.args.start c.len-place.result (seen_of c.mark.new.met c.args.trail.now.values) c.begin.new.self.clause.items c.push.new.self.items n) (sym c.in_ok-begin.ensures.after)
      (analysis_first c.args.clauses.now c.args.trail.now.values c.len-place.ensures.fresh c.requires.reasons c.args.start c.requires.last c.requires.decided c.requires.newest c.args.conflict c.requires.conflict c.clause.result.now c.clause.ensures
      (seen_of c.mark.new.met c.args.trail.now.values) c.mark.ensures.marked c.len-place.result c.len-place.ensures.count c.push.new.self.items (c.in_ok-push.ensures.items ∙ ap (λ hs. hs ++ (c.args.conflict + 1) ∷ []) c.in_ok-begin.ensures.hints)
      c.begin.new.self.clause.items c.in_ok-begin.ensures.clause);
}

pub reason_to_resolve-reason-requires-clause-known : goal.reason_to_resolve-reason-requires-clause-known
reason_to_resolve-reason-requires-clause-known c =
    witness_more c.args.trail.now.values c.args.start (seen_of c.loop-place.analysis.met c.args.trail.now.values) c.loop-place.place (c.loop-place.place - 1) c.loop-place.known (seen_of c.loop-place.analysis.met c.args.trail.now.values) (omega arith) (λ x h. h) c.loop-place.invariant.witness

pub overflow_sub-id : goal.overflow_sub-id
overflow_sub-id c =
    let k = place_reason c.args.clauses.now c.args.trail.now.values c.len-place.ensures.fresh c.requires.reasons c.args.start c.requires.last c.loop-place.place (c.loop-place.place - 1) refl c.loop-place-test.true c.loop-place.invariant.within c.loop-place.analysis.met c.loop-place.analysis.clause.items c.loop-place.analysis.hints.items c.loop-place.analysis.after c.loop-place.invariant.analysis c.value-value.result c.value-value.ensures.is c.value-value.ensures.fresh c.in-Some.id (c.in-Some.ensures.resolves c.value-value.result c.value-value.ensures.is).reason in omega (arith, k.0)

pub clause-clause-requires : goal.clause-clause-requires
clause-clause-requires c =
    let k = place_reason c.args.clauses.now c.args.trail.now.values c.len-place.ensures.fresh c.requires.reasons c.args.start c.requires.last c.loop-place.place (c.loop-place.place - 1) refl c.loop-place-test.true c.loop-place.invariant.within c.loop-place.analysis.met c.loop-place.analysis.clause.items c.loop-place.analysis.hints.items c.loop-place.analysis.after c.loop-place.invariant.analysis c.value-value.result c.value-value.ensures.is c.value-value.ensures.fresh c.in-Some.id (c.in-Some.ensures.resolves c.value-value.result c.value-value.ensures.is).reason in omega (arith, k.1)

pub mark_others-requires-clause-over : goal.mark_others-requires-clause-over
mark_others-requires-clause-over c = all_over c.args.trail.now.vars c.args.clauses.now (c.in-Some.id - 1) c.clause-clause.result.now c.requires.over c.clause-clause.ensures

pub mark_others-requires-clause-others : goal.mark_others-requires-clause-others
mark_others-requires-clause-others c =
    place_others c.args.clauses.now c.args.trail.now.values c.len-place.ensures.fresh c.requires.reasons c.args.start c.requires.last c.loop-place.place (c.loop-place.place - 1) refl c.loop-place-test.true c.loop-place.invariant.within c.loop-place.analysis.met c.loop-place.analysis.clause.items c.loop-place.analysis.hints.items c.loop-place.analysis.after c.loop-place.invariant.analysis c.value-value.result c.value-value.ensures.is c.value-value.ensures.fresh c.in-Some.id (c.in-Some.ensures.resolves c.value-value.result c.value-value.ensures.is).reason c.clause-clause.result.now c.clause-clause.ensures

pub loop-place-preserved-in-Continue-branch-3 : goal.loop-place-preserved-in-Continue-branch-3
loop-place-preserved-in-Continue-branch-3 c = record {
  within = omega (arith, c.loop-place.invariant.within);
  room_is = omega (arith, c.loop-place.invariant.room_is, c.mark_others.ensures.room);
  witness = witness_more c.args.trail.now.values c.args.start (seen_of c.loop-place.analysis.met c.args.trail.now.values) (c.loop-place.place - 1) (c.loop-place.place - 1) c.reason_to_resolve-reason.new.known (seen_of c.mark_others.new.met c.args.trail.now.values) (omega arith) c.mark_others.ensures.kept c.reason_to_resolve-reason.ensures.known;
  analysis = place_resolve c.args.clauses.now c.args.trail.now.values c.len-place.ensures.fresh c.requires.reasons c.args.start c.requires.last c.loop-place.place (c.loop-place.place - 1) refl c.loop-place-test.true c.loop-place.invariant.within c.loop-place.analysis.met c.loop-place.analysis.clause.items c.loop-place.analysis.hints.items c.loop-place.analysis.after c.loop-place.invariant.analysis c.value-value.result c.value-value.ensures.is c.value-value.ensures.fresh (sym c.has.ensures ∙ c.if-has.true) c.in-Some.id (c.in-Some.ensures.resolves c.value-value.result c.value-value.ensures.is) c.clause-clause.result.now c.clause-clause.ensures
      c.mark_others.new.met c.mark_others.ensures.kept c.mark_others.ensures.marked c.push-in-Some.new.self.items c.in_ok-push-in-Some.ensures.items;
}

pub loop-place-preserved-in-Continue-branch-4 : goal.loop-place-preserved-in-Continue-branch-4
loop-place-preserved-in-Continue-branch-4 c = record {
  within = omega (arith, c.loop-place.invariant.within);
  room_is = c.loop-place.invariant.room_is;
  witness = c.reason_to_resolve-reason.ensures.known;
  analysis = place_keep c.args.clauses.now c.args.trail.now.values c.len-place.ensures.fresh c.requires.reasons c.args.start c.requires.last c.loop-place.place (c.loop-place.place - 1) refl c.loop-place-test.true c.loop-place.invariant.within c.loop-place.analysis.met c.loop-place.analysis.clause.items c.loop-place.analysis.hints.items c.loop-place.analysis.after c.loop-place.invariant.analysis c.value-value.result c.value-value.ensures.is c.value-value.ensures.fresh (sym c.has.ensures ∙ c.if-has.true) (c.in-None.ensures.keeps c.value-value.result c.value-value.ensures.is)
      c.push-in-None.new.self.items (c.in_ok-push-in-None.ensures.items ∙ ap (λ l. c.loop-place.analysis.clause.items ++ l ∷ []) c.flip.ensures) c.values_after-analysis.result
      (elim c.values_after-analysis.ensures [ inl e ↦ inl (sym c.loop-place.analysis.clause.ok.0 ∙ sym c.len.ensures ∙ e.0, e.1) | inr e ↦ inr (λ q. e.0 (c.len.ensures ∙ c.loop-place.analysis.clause.ok.0 ∙ q), e.1) ]);
}

pub loop-place-preserved : goal.loop-place-preserved
loop-place-preserved c = record {
  within = omega (arith, c.loop-place.invariant.within);
  room_is = c.loop-place.invariant.room_is;
  witness = witness_more c.args.trail.now.values c.args.start (seen_of c.loop-place.analysis.met c.args.trail.now.values) c.loop-place.place (c.loop-place.place - 1) c.loop-place.known (seen_of c.loop-place.analysis.met c.args.trail.now.values) (omega arith) (λ x h. h) c.loop-place.invariant.witness;
  analysis = place_pass c.args.clauses.now c.args.trail.now.values c.len-place.ensures.fresh c.requires.reasons c.args.start c.requires.last c.loop-place.place (c.loop-place.place - 1) refl c.loop-place-test.true c.loop-place.invariant.within c.loop-place.analysis.met c.loop-place.analysis.clause.items c.loop-place.analysis.hints.items c.loop-place.analysis.after c.loop-place.invariant.analysis (sym c.has.ensures ∙ c.if-has.false);
}

pub returns-clause-accepted : goal.returns-clause-accepted
returns-clause-accepted c =
    subst (λ hs. run (at_of c.args.clauses.now) (denied c.loop-place.analysis.clause.items) (map pos hs) ≡ Accepted) (sym c.reverse.ensures.items)
    (last c.args.clauses.now c.args.trail.now.values c.len-place.ensures.fresh c.requires.reasons (seen_of c.loop-place.analysis.met c.args.trail.now.values) c.loop-place.analysis.clause.items (map pos (reverse c.loop-place.analysis.hints.items)) c.loop-place.place c.loop-place-test.false c.loop-place.invariant.analysis.reduced)

pub returns-clause-numbers : goal.returns-clause-numbers
returns-clause-numbers c = subst (AreNumbers c.args.clauses.now) (sym c.reverse.ensures.items) (numbers_reverse c.args.clauses.now c.loop-place.analysis.hints.items c.loop-place.invariant.analysis.numbers)

pub returns-clause-asserts : goal.returns-clause-asserts
returns-clause-asserts c = analysis_last c.args.clauses.now c.args.trail.now.values c.len-place.ensures.fresh c.requires.reasons c.args.start c.requires.last c.loop-place.place (seen_of c.loop-place.analysis.met c.args.trail.now.values) c.loop-place.analysis.clause.items c.loop-place.analysis.hints.items c.loop-place.analysis.after c.loop-place-test.false c.loop-place.invariant.analysis

pub returns-clause-led : goal.returns-clause-led
returns-clause-led c = analysis_led c.args.clauses.now c.args.trail.now.values c.len-place.ensures.fresh c.requires.reasons c.args.start c.requires.last c.loop-place.place (seen_of c.loop-place.analysis.met c.args.trail.now.values) c.loop-place.analysis.clause.items c.loop-place.analysis.hints.items c.loop-place.analysis.after c.loop-place-test.false c.loop-place.invariant.analysis

pub returns-clause-over : goal.returns-clause-over
returns-clause-over c = false_over c.args.trail.now.vars c.args.trail.now.values c.len-place.ensures.fresh c.len-place.ensures.over c.loop-place.analysis.clause.items c.loop-place.invariant.analysis.reduced.is_false
