use Rattle.std.proofs.Common.{◌≡◌, ℕ, ◌+◌, ◌∙◌, refl, sym, subst, Ok, inl, inr, true, arith}
use Rattle.std.specs.declared.result.Result.{Result}
use Rattle.wire_io.specs.declared.fault.NoMemory.{NoMemory}
use Rattle.lrat_replay.specs.Status.{IsUnit}
use Rattle.lrat_replay.proofs.Tools.{forces-is, conflict-is}
use Rattle.clause_solver.specs.Trail.{Track, known_by, unassigned, IsVariableOf}
use Rattle.clause_solver.specs.Plain.{IsConflictAt}
use Rattle.clause_solver.specs.declared.plain.Pass.{Pass}
use Rattle.clause_solver.specs.declared.plain.Pass.TheVariants.{Conflict}
use Rattle.clause_solver.proofs.Propagation.{get_inside, unit_fresh, all_over, over_has, rests_status, IsProgress, progress_forces, progress_rests}
use Rattle.clause_solver.proofs.plain.scan_all.Goals as goal
use Rattle.clause_solver.proofs.plain.scan_all.Goals.{in-Forces+in_ok-push-in-Forces, in-Satisfied}

same_place : (i place : ℕ) (r s : Result Pass NoMemory) → r ≡ Ok (Conflict i) → s ≡ Ok (Conflict place) → r ≡ s → i ≡ place
same_place i place r s a b e = cc

pub returns-in-Conflict-clause-conflict : goal.returns-in-Conflict-clause-conflict
returns-in-Conflict-clause-conflict c = λ place e.
    let known = known_by c.loop-index.trail.values in
    subst (IsConflictAt c.args.clauses.now known) (same_place c.loop-index.index place (Ok (Conflict c.loop-index.index)) (Ok (Conflict place)) refl refl e)
    (record { clause = c.clause.result.now; found = c.clause.ensures; conflict = conflict-is known c.clause.result.now (sym c.status.ensures ∙ c.in-Conflict.is) })

pub push-requires-clause-variable : goal.push-requires-clause-variable
push-requires-clause-variable c =
    let known = known_by c.loop-index.trail.values in
    let unit : IsUnit known c.clause.result.now c.in-Forces.lit = forces-is known c.clause.result.now c.in-Forces.lit (sym c.status.ensures ∙ c.in-Forces.is) in
    subst (λ n. IsVariableOf n c.in-Forces.lit) (sym c.loop-index.invariant.vars_is)
    (over_has c.args.trail.now.vars c.clause.result.now c.in-Forces.lit (all_over c.args.trail.now.vars c.args.clauses.now c.loop-index.index c.clause.result.now c.requires.over c.clause.ensures) unit.is_in)

pub push-requires-clause-fresh : goal.push-requires-clause-fresh
push-requires-clause-fresh c =
    let known = known_by c.loop-index.trail.values in
    unit_fresh known c.clause.result.now c.in-Forces.lit (forces-is known c.clause.result.now c.in-Forces.lit (sym c.status.ensures ∙ c.in-Forces.is))

pub loop-index-preserved : goal.loop-index-preserved
loop-index-preserved c =
    let clauses = c.args.clauses.now in
    let vars = c.args.trail.now.vars in
    let start = unassigned c.args.trail.now in
    let known = known_by c.loop-index.trail.values in
    elim c.match-status.branch [
      | in-Forces+in_ok-push-in-Forces w ↦
          let unit : IsUnit known c.clause.result.now w.in-Forces.lit = forces-is known c.clause.result.now w.in-Forces.lit (sym c.status.ensures ∙ w.in-Forces.is) in
          let variable = subst (λ n. IsVariableOf n w.in-Forces.lit) (sym c.loop-index.invariant.vars_is)
          (over_has vars c.clause.result.now w.in-Forces.lit (all_over vars clauses c.loop-index.index c.clause.result.now c.requires.over c.clause.ensures) unit.is_in) in
          let next = progress_forces clauses vars start c.loop-index.trail c.loop-index.forced c.loop-index.index c.clause.result.now c.loop-index.invariant c.clause.ensures w.in-Forces.lit unit variable in
          subst (λ f. IsProgress clauses vars start c.match-status.trail f (c.loop-index.index + 1)) (sym w.forced-is)
          (subst (λ (t : Track). IsProgress clauses vars start t true (c.loop-index.index + 1)) (sym (w.trail-is ∙ w.in_ok-push-in-Forces.ensures.ok)) next)
      | in-Satisfied w ↦
          let next = progress_rests clauses vars start c.loop-index.trail c.loop-index.forced c.loop-index.index c.clause.result.now c.loop-index.invariant c.clause.ensures
          (rests_status known c.clause.result.now (elim w.in-Satisfied.is [ inl e ↦ inl (sym c.status.ensures ∙ e) | inr e ↦ inr (sym c.status.ensures ∙ e) ])) in
          subst (λ f. IsProgress clauses vars start c.match-status.trail f (c.loop-index.index + 1)) (sym w.forced-is)
          (subst (λ (t : Track). IsProgress clauses vars start t c.loop-index.forced (c.loop-index.index + 1)) (sym w.trail-is) next)
    ]

pub returns-else-forced-clause-quiet : goal.returns-else-forced-clause-quiet
returns-else-forced-clause-quiet c = λ e k clause found.
    let inside = (get_inside c.args.clauses.now k clause found).0 in
    c.loop-index.invariant.rests c.if-forced.false k clause (omega (arith, inside, c.len-index-end.ensures, c.loop-index-test.false)) found
