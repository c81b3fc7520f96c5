use Rattle.std.proofs.Common.{◌≡◌, ◌+◌, ◌*◌, ◌-◌, ◌≤◌, reverse, map, [], ◌∷◌, ◌++◌, ◌∙◌, refl, sym, ap, subst, arith, pos, true}
use Rattle.std.specs.Prelude.{slice_get}
use Rattle.clause_core.specs.Literal.{has}
use Rattle.lrat_replay.specs.Marks.{known_of, room}
use Rattle.lrat_replay.specs.Book.{run, denied, Accepted}
use Rattle.lrat_replay.proofs.Tools.{fits_over}
use Rattle.clause_solver.specs.Plain.{at_of}
use Rattle.clause_solver.proofs.Propagation.{all_over, get_inside}
use Rattle.clause_solver.proofs.AnalyseLaws.{last, same_at, AreNumbers, numbers_reverse}
use Rattle.clause_solver.proofs.AnalysisSteps.{not_decided, refuting_first, refuting_pass, refuting_reason, refuting_resolve}
use Rattle.clause_solver.proofs.refute.refute.Goals as goal

pub mark-requires : goal.mark-requires
mark-requires c =
    let wide : 2 * c.args.trail.now.vars + 2 ≤ room c.clear.new.self = omega (arith, c.requires.room, c.clear.ensures.room) in
    fits_over c.args.trail.now.vars (room c.clear.new.self) c.clause.result.now (all_over c.args.trail.now.vars c.args.clauses.now c.args.conflict c.clause.result.now c.requires.over c.clause.ensures) wide

pub loop-place-init : goal.loop-place-init
loop-place-init c = record {
  within = omega (arith, c.len-place.ensures.count);
  room_is = c.mark.ensures.room ∙ c.clear.ensures.room;
  refuting = refuting_first c.args.clauses.now c.args.trail.now.values c.len-place.ensures.fresh c.requires.reasons c.args.conflict c.requires.conflict c.clause.result.now c.clause.ensures (known_of c.mark.new.seen) c.mark.ensures.marked
      c.len-place.result c.len-place.ensures.count c.push.new.self.items (c.in_ok-push.ensures.items ∙ ap (λ hs. hs ++ (c.args.conflict + 1) ∷ []) c.new-hints.ensures.items);
}

pub overflow_sub-id : goal.overflow_sub-id
overflow_sub-id c =
    let k = refuting_reason c.args.clauses.now c.args.trail.now.values c.len-place.ensures.fresh c.requires.reasons c.loop-place.place (c.loop-place.place - 1) c.value-value.result refl c.loop-place-test.true c.value-value.ensures.is c.value-value.ensures.fresh
    (known_of c.loop-place.seen) c.loop-place.hints.items c.loop-place.invariant.refuting c.in-Some.id c.in-Some.is in omega (arith, k.id_is)

pub clause-requires-then-has : goal.clause-requires-then-has
clause-requires-then-has c =
    let k = refuting_reason c.args.clauses.now c.args.trail.now.values c.len-place.ensures.fresh c.requires.reasons c.loop-place.place (c.loop-place.place - 1) c.value-value.result refl c.loop-place-test.true c.value-value.ensures.is c.value-value.ensures.fresh
    (known_of c.loop-place.seen) c.loop-place.hints.items c.loop-place.invariant.refuting c.in-Some.id c.in-Some.is in
    let inside = (get_inside c.args.clauses.now k.place k.clause k.found).0 in
    omega (arith, k.id_is, inside)

pub mark-requires-then-has : goal.mark-requires-then-has
mark-requires-then-has c =
    let wide : 2 * c.args.trail.now.vars + 2 ≤ room c.loop-place.seen = omega (arith, c.requires.room, c.loop-place.invariant.room_is) in
    fits_over c.args.trail.now.vars (room c.loop-place.seen) c.clause-then-has.result.now
    (all_over c.args.trail.now.vars c.args.clauses.now (c.in-Some.id - 1) c.clause-then-has.result.now c.requires.over c.clause-then-has.ensures) wide

pub loop-place-preserved-in-Continue-branch-2 : goal.loop-place-preserved-in-Continue-branch-2
loop-place-preserved-in-Continue-branch-2 c =
    let k = refuting_reason c.args.clauses.now c.args.trail.now.values c.len-place.ensures.fresh c.requires.reasons c.loop-place.place (c.loop-place.place - 1) c.value-value.result refl c.loop-place-test.true c.value-value.ensures.is c.value-value.ensures.fresh
    (known_of c.loop-place.seen) c.loop-place.hints.items c.loop-place.invariant.refuting c.in-Some.id c.in-Some.is in
    let place : c.in-Some.id - 1 ≡ k.place = omega (arith, k.id_is) in
    let same : k.clause ≡ c.clause-then-has.result.now = same_at c.args.clauses.now k.place k.clause c.clause-then-has.result.now k.found (ap (λ n. slice_get c.args.clauses.now n) (sym place) ∙ c.clause-then-has.ensures) in
    record {
      within = omega (arith, c.loop-place.invariant.within);
      room_is = c.mark-then-has.ensures.room ∙ c.loop-place.invariant.room_is;
      refuting = refuting_resolve c.args.clauses.now c.args.trail.now.values c.len-place.ensures.fresh c.requires.reasons c.loop-place.place (c.loop-place.place - 1) c.value-value.result refl c.loop-place-test.true c.value-value.ensures.is c.value-value.ensures.fresh
          (known_of c.loop-place.seen) c.loop-place.hints.items c.loop-place.invariant.refuting c.in-Some.id k (known_of c.mark-then-has.new.seen) c.mark-then-has.ensures.kept
          (λ l m. c.mark-then-has.ensures.marked l (subst (λ w. has w l ≡ true) same m)) c.push-then-has.new.self.items c.in_ok-push-in-Some.ensures.items;
    }

pub loop-place-preserved-in-None : goal.loop-place-preserved-in-None
loop-place-preserved-in-None c = absurd (not_decided c.args.trail.now.values (c.loop-place.place - 1) c.value-value.result c.value-value.ensures.is c.requires.decided c.in-None.is)

pub loop-place-preserved : goal.loop-place-preserved
loop-place-preserved c = record {
  within = omega (arith, c.loop-place.invariant.within);
  room_is = c.loop-place.invariant.room_is;
  refuting = refuting_pass c.args.clauses.now c.args.trail.now.values c.len-place.ensures.fresh c.requires.reasons c.loop-place.place (c.loop-place.place - 1) c.value-value.result refl c.loop-place-test.true c.value-value.ensures.is c.value-value.ensures.fresh
      (known_of c.loop-place.seen) c.loop-place.hints.items c.loop-place.invariant.refuting (sym c.has.ensures ∙ c.if-has.false);
}

pub returns-clause-accepted : goal.returns-clause-accepted
returns-clause-accepted c =
    subst (λ hs. run (at_of c.args.clauses.now) (denied []) (map pos hs) ≡ Accepted) (sym c.reverse.ensures.items)
    (last c.args.clauses.now c.args.trail.now.values c.len-place.ensures.fresh c.requires.reasons (known_of c.loop-place.seen) [] (map pos (reverse c.loop-place.hints.items)) c.loop-place.place c.loop-place-test.false c.loop-place.invariant.refuting.reduced)

pub returns-clause-numbers : goal.returns-clause-numbers
returns-clause-numbers c = subst (AreNumbers c.args.clauses.now) (sym c.reverse.ensures.items) (numbers_reverse c.args.clauses.now c.loop-place.hints.items c.loop-place.invariant.refuting.numbers)
