-- The learned clause is settled after a backjump.
use Rattle.std.proofs.Common.{◌≡◌, ℕ, zero, suc, ◌+◌, ◌-◌, ◌*◌, ◌<◌, ◌≤◌, Bool, true, false, List, [], ◌∷◌, ◌++◌, length, get_or, ◌⊎◌, inl, inr, refl, sym, ap, ◌∙◌, subst, arith, Option, None, Some, length-append}
use Rattle.std.specs.Prelude.{slice_get}
use Rattle.std.proofs.lemmas.Bool.{true≢false}
use Rattle.std.proofs.lemmas.Option.{get_or_from_slice_get, slice_get_within}
use Rattle.clause_core.specs.Literal.{Literal, flip, has}
use Rattle.clause_core.specs.Formula.{IsOver}
use Rattle.lrat_replay.specs.Status.{IsSatisfied, IsUnit}
use Rattle.lrat_replay.proofs.Tools.{has-at}
use Rattle.clause_solver.specs.Trail.{Track, known_by, oldest, before_last, has_decision, IsFresh, AreFresh, IsVariableOf, IsDecidedAt}
use Rattle.clause_solver.specs.Plain.{HaveReasons}
use Rattle.clause_solver.specs.Analysis.{IsAnchor, IsLed}
use Rattle.clause_solver.specs.Watch.{count, HasSettled}
use Rattle.clause_solver.specs.Watching.{IsGuarded, IsWorking, HasSecond, IsLearning, HasAdvanced}
use Rattle.clause_solver.specs.declared.value.Value.{Value}
use Rattle.clause_solver.specs.declared.watch.Pair.{Pair}
use Rattle.clause_solver.specs.declared.watch.Watches.{Watches}
use Rattle.clause_solver.specs.declared.work.Work.{Work}
use Rattle.clause_solver.proofs.Reduce.{value-first}
use Rattle.clause_solver.proofs.Levels.{oldest-none, oldest-step, known-oldest, unknown-oldest, unknown-before}
use Rattle.clause_solver.proofs.TrailPlaces.{fresh-drop}
use Rattle.clause_solver.proofs.Propagation.{all_over, over_has, pushed_fewer}
use Rattle.clause_solver.proofs.Steps.{over_more}
use Rattle.clause_solver.proofs.Backjump.{reasons_back}
use Rattle.clause_solver.proofs.Watching.{oldest-skip, off_at_zero, off_before, watching_forced, watching_learned, watching_back}
use Rattle.clause_solver.proofs.Visits.{unit_of, whole_two}

pub get-last : (cs : List (List Literal)) (x : List Literal) (k : ℕ) → k ≡ length cs → slice_get (cs ++ x ∷ []) k ≡ Some x
get-last [] x zero e = refl
get-last [] x (suc k) e = absurd (omega arith)
get-last (c ∷ cs) x zero e = absurd (omega arith)
get-last (c ∷ cs) x (suc k) e = get-last cs x k (omega arith)

pub first_some : (clause : List Literal) (x : Literal) → slice_get clause 0 ≡ Some x → 0 < length clause
first_some clause x h = slice_get_within clause 0 x h

module _ (work : Work) (clause : List Literal) (l : IsLearning work clause) where
  long : length work.clauses ≡ length l.before + 1
  long = ap length l.clauses ∙ length-append l.before (clause ∷ [])

  found : slice_get work.clauses (length l.before) ≡ Some clause
  found = ap (λ cs. slice_get cs (length l.before)) l.clauses ∙ get-last l.before clause (length l.before) refl

  -- the clauses before are settled, and no more
  pub learned_many : count work.watches + 1 ≡ length work.clauses
  learned_many = let c = l.watching.counted in let a = l.settled in let m = long in omega arith

  pub learned_over : IsOver work.trail.vars clause
  learned_over = all_over work.trail.vars work.clauses (length l.before) clause l.over found

  pub learned_first : (one : Literal) → one ≡ get_or clause 0 one → l.first ≡ one
  learned_first one e = sym (get_or_from_slice_get clause 0 l.first one l.first_at) ∙ sym e

  pub learned_variable : (one : Literal) → l.first ≡ one → IsVariableOf work.trail.vars one
  learned_variable one e = subst (IsVariableOf work.trail.vars) e (over_has work.trail.vars clause l.first learned_over l.unit.is_in)

  pub learned_open : (one : Literal) → l.first ≡ one → IsFresh (known_by work.trail.values) one
  learned_open one e = subst (IsFresh (known_by work.trail.values)) e (record { unknown = l.unit.unknown; flip_unknown = l.unit.flip_unknown })

  pub learned_second : (length clause ≡ 1 → ⊥) → HasSecond work.trail.values clause l.first
  learned_second ne = elim l.second [ inl h ↦ absurd (ne h.0) | inr s ↦ s ]

  pub learned_two : (two : Literal) → two ≡ get_or clause 1 two → (s : HasSecond work.trail.values clause l.first) → s.two ≡ two
  learned_two two e s = sym (get_or_from_slice_get clause 1 s.two two s.at) ∙ sym e

  pub learned_two_variable : (two : Literal) → two ≡ get_or clause 1 two → 1 < length clause → IsVariableOf work.trail.vars two
  learned_two_variable two e h = over_has work.trail.vars clause two learned_over (has-at clause 1 two h e)

  module _ (one : Literal) (is_first : l.first ≡ one) (id : ℕ) (id_is : id ≡ length work.clauses) (t : Track) (is : t ≡ record { vars = work.trail.vars; values = record { lit = one; reason = Some id } ∷ work.trail.values }) where
    v : Value
    v = record { lit = one; reason = Some id }

    unit : IsUnit (known_by work.trail.values) clause one
    unit = subst (IsUnit (known_by work.trail.values) clause) is_first l.unit

    satisfied : IsSatisfied (known_by (let w : Value = record { lit = one; reason = Some id } in w ∷ work.trail.values)) clause
    satisfied = record { lit = one; is_in = unit.is_in; is_known = value-first (record { lit = one; reason = Some id }) work.trail.values }

    pushed : (new : Watches) (pair : Option Pair) → HasSettled work.watches new pair → IsGuarded clause pair work.looked (record { lit = one; reason = Some id } ∷ work.trail.values)
        → IsWorking (record { clauses = work.clauses; trail = t; seen = work.seen; watches = new; looked = work.looked })
    pushed new pair s g = subst (λ (x : Track). IsWorking (record { clauses = work.clauses; trail = x; seen = work.seen; watches = new; looked = work.looked })) (sym is) (record {
      over = l.over;
      wide = subst (λ n. 2 * work.trail.vars + 2 ≤ n) (sym s.width) l.wide;
      fresh = (record { unknown = unit.unknown; flip_unknown = unit.flip_unknown }, l.fresh);
      reasons = (record { place = length l.before; clause = clause; id_is = id_is ∙ long; found = found; unit = unit }, l.reasons);
      watching = watching_learned l.before (record { lit = one; reason = Some id } ∷ work.trail.values) work.looked work.watches new
          (watching_forced l.before work.trail.values work.looked work.watches l.watching one id) pair s work.clauses clause l.clauses l.settled g;
    })

    pub learned_passed : length clause ≡ 1 → (new : Watches) → HasSettled work.watches new None → IsWorking (record { clauses = work.clauses; trail = t; seen = work.seen; watches = new; looked = work.looked })
    learned_passed only new s = pushed new None s (satisfied, off_at_zero clause None (record { lit = one; reason = Some id } ∷ work.trail.values) none) where
      none : has_decision work.trail.values ≡ false
      none = elim l.second [
        | inl h ↦ h.1
        | inr h ↦ let w = slice_get_within clause 1 h.two h.at in absurd (omega arith)
      ]

    pub learned_watched : (length clause ≡ 1 → ⊥) → (two : Literal) → two ≡ get_or clause 1 two → (is_whole : Bool) → (is_whole ≡ true → length clause ≡ 2) → (new : Watches) → HasSettled work.watches new (Some (record { one = one; two = two; is_whole = is_whole }))
        → IsWorking (record { clauses = work.clauses; trail = t; seen = work.seen; watches = new; looked = work.looked })
    learned_watched ne two e is_whole short new s = pushed new (Some (record { one = one; two = two; is_whole = is_whole })) s (
      record {
        one_in = unit.is_in;
        two_in = two_in;
        apart = apart;
        whole = λ k. whole_two clause one two (short k) unit.is_in two_in apart;
        one = λ k. satisfied;
        two = λ k. satisfied;
      },
      (
        tt,
        off_before clause (record { one = one; two = two; is_whole = is_whole }) unit.is_in two_in apart (λ k. whole_two clause one two (short k) unit.is_in two_in apart) work.trail.values
            (subst (λ x. known_by (before_last work.trail.values) (flip x) ≡ false) is_first h.first_open) (subst (λ x. known_by (before_last work.trail.values) (flip x) ≡ false) same h.two_open),
      ),
    ) where
      h : HasSecond work.trail.values clause l.first
      h = learned_second ne

      same : h.two ≡ two
      same = learned_two two e h

      two_in : has clause two ≡ true
      two_in = has-at clause 1 two (slice_get_within clause 1 h.two h.at) e

      apart : one ≡ two → ⊥
      apart q = h.apart (is_first ∙ q ∙ sym same)

    pub learned_advanced : (new : Watches) → HasAdvanced work (record { clauses = work.clauses; trail = t; seen = work.seen; watches = new; looked = work.looked })
    learned_advanced new = subst (λ (x : Track). HasAdvanced work (record { clauses = work.clauses; trail = x; seen = work.seen; watches = new; looked = work.looked })) (sym is) (record {
      clauses = refl;
      seen = refl;
      vars = refl;
      front = λ n h. oldest-skip (record { lit = one; reason = Some id }) work.trail.values n h;
      longer = omega arith;
      grown = let f = pushed_fewer work.trail one (Some id) (learned_variable one is_first) unit.unknown in omega arith;
    })

-- while something is decided each clause is settled
pub decided_settled : (work : Work) → IsWorking work → has_decision work.trail.values ≡ true → length work.clauses ≤ count work.watches
decided_settled work w d = elim (order (length work.clauses) (count work.watches)) [ inl h ↦ h | inr h ↦ absurd (true≢false (sym d ∙ (w.watching.early h).0)) ] where
  order : (a b : ℕ) → (a ≤ b) ⊎ (b < a)
  order a b = grind arith

-- after the backjump
module _ (work : Work) (w : IsWorking work) (start : ℕ) (s : IsDecidedAt work.trail.values start) (decided : has_decision work.trail.values ≡ true) (clause : List Literal) (after keep : ℕ) (over : IsOver work.trail.vars clause)
    (led : IsLed work.trail.values start clause after) (anchor : IsAnchor work.trail.values clause after) (from : after ≤ keep) (to : keep ≤ start) (ends : (keep ≡ start) ⊎ IsDecidedAt work.trail.values keep)
    (same : before_last (oldest keep work.trail.values) ≡ before_last (oldest after work.trail.values)) (same_decided : has_decision (oldest keep work.trail.values) ≡ has_decision (oldest after work.trail.values)) where
  at_keep : IsDecidedAt work.trail.values keep
  at_keep = elim ends [ inl e ↦ subst (IsDecidedAt work.trail.values) (sym e) s | inr d ↦ d ]

  values : List Value
  values = oldest keep work.trail.values

  fresh_back : AreFresh (oldest keep work.trail.values)
  fresh_back = fresh-drop work.trail.values (length work.trail.values - keep) w.fresh

  first_in : has clause led.first ≡ true
  first_in = has-at clause 0 led.first (slice_get_within clause 0 led.first led.at) (sym (get_or_from_slice_get clause 0 led.first led.first led.at))

  unit_back : IsUnit (known_by (oldest keep work.trail.values)) clause led.first
  unit_back = unit_of (oldest keep work.trail.values) fresh_back clause led.first first_in (unknown-oldest work.trail.values keep start led.first to led.fresh.unknown) (unknown-oldest work.trail.values keep start (flip led.first) to led.fresh.flip_unknown)
      (λ l h. elim (led.others l h) [ inl e ↦ inl e | inr k ↦ inr (known-oldest work.trail.values after keep (flip l) from k) ])

  second_back : IsAnchor work.trail.values clause after → ((length clause ≡ 1) × (has_decision (oldest keep work.trail.values) ≡ false)) ⊎ HasSecond (oldest keep work.trail.values) clause led.first
  second_back (inl e) =
      let some = first_some clause led.first led.at in
      inl (let few = e.0 in omega arith, same_decided ∙ ap has_decision (oldest-none work.trail.values after (let z = e.1 in omega arith)))
  second_back (inr h) =
      let step = oldest-step work.trail.values h.place h.within in
      let up = ap (λ n. oldest n work.trail.values) h.after_is ∙ step.1 in
      let first_is : h.one ≡ led.first = (let e : Some h.one ≡ Some led.first = sym h.one_at ∙ led.at in cc) in
      inr (record {
        two = h.two;
        at = h.two_at;
        apart = λ e. h.apart (first_is ∙ e);
        first_open = subst (λ x. known_by (before_last (oldest keep work.trail.values)) (flip x) ≡ false) first_is
            (ap (λ vs. known_by vs (flip h.one)) (same ∙ ap before_last up) ∙ unknown-before step.0 (oldest h.place work.trail.values) (flip h.one) h.one_unknown);
        two_open = ap (λ vs. known_by vs (flip h.two)) (same ∙ ap before_last up) ∙ unknown-before step.0 (oldest h.place work.trail.values) (flip h.two) h.two_unknown;
      })

  pub learning : (clauses : List (List Literal)) → clauses ≡ work.clauses ++ clause ∷ [] → (t : Track) → t ≡ record { vars = work.trail.vars; values = oldest keep work.trail.values } → (seen : _) → IsLearning (record { clauses = clauses; trail = t; seen = seen; watches = work.watches; looked = keep }) clause
  learning clauses grown t is seen = subst (λ (x : Track). IsLearning (record { clauses = clauses; trail = x; seen = seen; watches = work.watches; looked = keep }) clause) (sym is) (record {
    before = work.clauses;
    clauses = grown;
    over = over_more work.trail.vars work.clauses clauses clause w.over over grown;
    wide = w.wide;
    fresh = fresh_back;
    reasons = subst (λ cs. HaveReasons cs (oldest keep work.trail.values)) (sym grown) (reasons_back work.clauses clause work.trail.values after keep w.reasons anchor same same_decided);
    watching = watching_back work.clauses work.trail.values work.looked work.watches w.watching (decided_settled work w decided) keep at_keep.within at_keep.value at_keep.is at_keep.decided;
    settled = decided_settled work w decided;
    first = led.first;
    first_at = led.at;
    unit = unit_back;
    second = second_back anchor;
  })
