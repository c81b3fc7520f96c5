-- Back to the values before the first decision.
use Rattle.std.proofs.Common.{◌≡◌, ℕ, ◌-◌, ◌<◌, ◌≤◌, length, ◌⊎◌, inl, inr, sym, subst, arith}
use Rattle.clause_solver.specs.Trail.{Track, oldest, IsDecidedAt}
use Rattle.clause_solver.specs.Watch.{count}
use Rattle.clause_solver.specs.Watching.{IsWorking}
use Rattle.clause_solver.specs.declared.work.Work.{Work}
use Rattle.clause_solver.proofs.AnalyseLaws.{reasons-drop}
use Rattle.clause_solver.proofs.AnalysisSteps.{not_decided}
use Rattle.clause_solver.proofs.TrailPlaces.{fresh-drop}
use Rattle.clause_solver.proofs.Watching.{watching_back}

module _ (work : Work) (w : IsWorking work) (keep : ℕ) (d : IsDecidedAt work.trail.values keep) (t : Track) (is : t ≡ record { vars = work.trail.vars; values = oldest keep work.trail.values }) where
  settled : length work.clauses ≤ count work.watches
  settled = elim (order (length work.clauses) (count work.watches)) [
    | inl h ↦ h
    | inr h ↦ absurd (not_decided work.trail.values keep d.value d.is (w.watching.early h).0 d.decided)
  ] where
    order : (a b : ℕ) → (a ≤ b) ⊎ (b < a)
    order a b = grind arith

  pub working_restarted : IsWorking (record { clauses = work.clauses; trail = t; seen = work.seen; watches = work.watches; looked = keep })
  working_restarted = subst (λ (x : Track). IsWorking (record { clauses = work.clauses; trail = x; seen = work.seen; watches = work.watches; looked = keep })) (sym is) (record {
    over = w.over;
    wide = w.wide;
    fresh = fresh-drop work.trail.values (length work.trail.values - keep) w.fresh;
    reasons = reasons-drop work.clauses work.trail.values (length work.trail.values - keep) w.reasons;
    watching = watching_back work.clauses work.trail.values work.looked work.watches w.watching settled keep d.within d.value d.is d.decided;
  })
