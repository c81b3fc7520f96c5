-- Rounds of a search over watched literals.
use Rattle.std.proofs.Common.{◌≡◌, ℕ, ◌+◌, ◌*◌, ◌≤◌, Bool, [], ◌⊎◌, inl, inr, refl, sym, ap, ◌∙◌, subst, arith, Ok, Err}
use Rattle.std.specs.Prelude.{All, IfOk}
use Rattle.std.specs.declared.result.Result.{Result}
use Rattle.clause_core.specs.Formula.{IsOver}
use Rattle.lrat_replay.specs.Book.{Book}
use Rattle.lrat_replay.specs.Marks.{room}
use Rattle.lrat_replay.specs.declared.ledger.LearnFault.{LearnFault}
use Rattle.clause_solver.specs.Trail.{Track, known_by, oldest, AreFresh, AreValued, IsDecided}
use Rattle.clause_solver.specs.Plain.{AllRest, HaveReasons}
use Rattle.clause_solver.specs.Copy.{IsCopy}
use Rattle.clause_solver.specs.Search.{IsReady, Moment, Goes, RoundSo}
use Rattle.clause_solver.specs.Watch.{width_of, count, IsEntry}
use Rattle.clause_solver.specs.Watching.{IsWorking, IsQuiet, HasAdvanced}
use Rattle.clause_solver.specs.declared.search.Round.{Round}
use Rattle.clause_solver.specs.declared.search.Round.TheVariants.{Learned, Decided, Satisfied}
use Rattle.clause_solver.specs.declared.watch.Entry.{Entry}
use Rattle.clause_solver.specs.declared.watch.Watches.{Watches}
use Rattle.clause_solver.specs.declared.work.Work.{Work}
use Rattle.clause_solver.proofs.Levels.{oldest-none}
use Rattle.clause_solver.proofs.Rounds.{quiet_round, round_before}
use Rattle.clause_solver.proofs.Visits.{advanced_fewer}
use Rattle.clause_solver.proofs.Watching.{watching_begun, watching_decided}

module _ (book : Book) (broken : Bool) (old new : Work) (ready : IsReady book broken old.clauses old.trail (room old.seen)) (a : HasAdvanced old new) (w : IsWorking new) where
  pub ready_after : IsReady book broken new.clauses new.trail (room new.seen)
  ready_after = record {
    whole = ready.whole;
    copy = subst (IsCopy book) (sym a.clauses) ready.copy;
    over = w.over;
    vars = a.vars ∙ ready.vars;
    room = let r = ready.room in let v = a.vars in let s = ap room a.seen in omega arith;
  }

  abbrev at : Work → Moment
  at work = record { book = book; broken = broken; clauses = work.clauses; track = work.trail; width = room work.seen }

  pub goes_after : Goes (record { book = book; broken = broken; clauses = new.clauses; track = new.trail; width = room new.seen })
  goes_after = record { ready = ready_after; reasons = w.reasons }

  pub quiet_after : AllRest new.clauses (known_by new.trail.values) → (t : Track) (left : ℕ) (r : Round) → (r ≡ Decided → IsDecided new.trail t) → (r ≡ Satisfied → (t ≡ new.trail) × AreValued new.trail.vars (known_by new.trail.values)) → (r ≡ Decided) ⊎ (r ≡ Satisfied)
      → RoundSo r (record { book = book; broken = broken; clauses = old.clauses; track = old.trail; width = room old.seen }) (record { book = book; broken = broken; clauses = new.clauses; track = t; width = room new.seen }) left
  quiet_after rest t left r d s o = round_before r (at old) (at new) (record { book = book; broken = broken; clauses = new.clauses; track = t; width = room new.seen }) left refl a.clauses a.vars (advanced_fewer old new a)
      (quiet_round book broken new.clauses new.trail new.trail t (room new.seen) left ready_after w.reasons rest refl (omega arith) r d s o)

  pub conflict_after : (last : Moment) (left : ℕ) (result : Result Round LearnFault) → IfOk result (λ r. RoundSo r (record { book = book; broken = broken; clauses = new.clauses; track = new.trail; width = room new.seen }) last left)
      → IfOk result (λ r. RoundSo r (record { book = book; broken = broken; clauses = old.clauses; track = old.trail; width = room old.seen }) last left)
  conflict_after last left (Ok r) h = round_before r (at old) (at new) last left refl a.clauses a.vars (advanced_fewer old new a) h
  conflict_after last left (Err e) h = tt

-- a value is decided
pub working_decided : (work : Work) → IsWorking work → IsQuiet work → AllRest work.clauses (known_by work.trail.values) → (t : Track) → IsDecided work.trail t
    → IsWorking (record { clauses = work.clauses; trail = t; seen = work.seen; watches = work.watches; looked = work.looked })
working_decided work w q rest t d = subst (λ (x : Track). IsWorking (record { clauses = work.clauses; trail = x; seen = work.seen; watches = work.watches; looked = work.looked })) (sym d.new_is) (record {
  over = w.over;
  wide = w.wide;
  fresh = (d.fresh, w.fresh);
  reasons = (rest, w.reasons);
  watching = watching_decided work.clauses work.trail.values work.looked work.watches w.watching d.lit q.settled q.looked;
})

-- a round that decided goes on, and did not learn
pub working_round : (work : Work) → IsWorking work → IsQuiet work → AllRest work.clauses (known_by work.trail.values) → (t : Track) (r : Round) → (r ≡ Decided → IsDecided work.trail t) → (r ≡ Decided) ⊎ (r ≡ Satisfied)
    → ((let x : Result Round LearnFault = Ok r in x) ≡ Ok Learned) ⊎ ((let x : Result Round LearnFault = Ok r in x) ≡ Ok Decided) → IsWorking (record { clauses = work.clauses; trail = t; seen = work.seen; watches = work.watches; looked = work.looked })
working_round work w q rest t r d (inl e) h = working_decided work w q rest t (d e)
working_round work w q rest t r d (inr e) h = absurd (elim h [
  | inl k ↦ (let s : (let x : Result Round LearnFault = Ok Satisfied in x) ≡ Ok Learned = ap (λ y. let x : Result Round LearnFault = Ok y in x) (sym e) ∙ k in cc)
  | inr k ↦ (let s : (let x : Result Round LearnFault = Ok Satisfied in x) ≡ Ok Decided = ap (λ y. let x : Result Round LearnFault = Ok y in x) (sym e) ∙ k in cc)
])

-- before the first round
module _ (book : Book) (broken : Bool) (work : Work) (ready : IsReady book broken work.clauses work.trail (room work.seen)) (t : Track) (is : t ≡ record { vars = work.trail.vars; values = oldest 0 work.trail.values }) where
  vars : t.vars ≡ work.trail.vars
  vars = ap (λ (x : Track). x.vars) is

  none : t.values ≡ []
  none = ap (λ (x : Track). x.values) is ∙ oldest-none work.trail.values 0 (omega arith)

  over : All (IsOver t.vars) work.clauses
  over = subst (λ n. All (IsOver n) work.clauses) (sym vars) ready.over

  pub working_begun : (watches : Watches) → 2 * work.trail.vars + 2 ≤ width_of watches → count watches ≡ 0 → ((entry : Entry) → IsEntry watches entry → ⊥) → IsWorking (record { clauses = work.clauses; trail = t; seen = work.seen; watches = watches; looked = 0 })
  working_begun watches wide none_settled empty = record {
    over = over;
    wide = subst (λ n. 2 * n + 2 ≤ width_of watches) (sym vars) wide;
    fresh = subst AreFresh (sym none) tt;
    reasons = subst (HaveReasons work.clauses) (sym none) tt;
    watching = watching_begun work.clauses t.values watches none none_settled empty;
  }

  pub goes_begun : Goes (record { book = book; broken = broken; clauses = work.clauses; track = t; width = room work.seen })
  goes_begun = record {
    ready = record { whole = ready.whole; copy = ready.copy; over = over; vars = vars ∙ ready.vars; room = subst (λ n. 2 * n + 2 ≤ room work.seen) (sym vars) ready.room };
    reasons = subst (HaveReasons work.clauses) (sym none) tt;
  }
