-- After a backjump the values that are left still have their reasons, with the new clause too.
use Rattle.std.proofs.Common.{◌≡◌, ℕ, zero, suc, ◌-◌, Bool, true, false, List, [], ◌∷◌, ◌++◌, length, ◌⊎◌, inl, inr, ap, ◌∙◌, subst, arith, Option, None, Some}
use Rattle.std.specs.Prelude.{slice_get}
use Rattle.std.proofs.lemmas.Bool.{both_ways, true≢false, false_from_ne_true}
use Rattle.clause_core.specs.Literal.{Literal, flip, has}
use Rattle.lrat_replay.specs.Status.{Known, Rests}
use Rattle.clause_solver.specs.Trail.{known_by, oldest, before_last, has_decision}
use Rattle.clause_solver.specs.Plain.{AllRest, HasReason, HaveReasons}
use Rattle.clause_solver.specs.Analysis.{IsAnchor}
use Rattle.clause_solver.specs.declared.value.Value.{Value}
use Rattle.clause_solver.proofs.Reduce.{value-older}
use Rattle.clause_solver.proofs.AnalyseLaws.{reasons-drop}
use Rattle.clause_solver.proofs.Levels.{unknown-before, oldest-none, oldest-step}

-- at each decision the clause rests
abbrev pub RestsBefore : List Literal → Known → Option ℕ → Type 0
RestsBefore clause known None = Rests known clause
RestsBefore clause known (Some i) = Unit {0}

abbrev pub RestsAtDecisions : List Literal → List Value → Type 0
RestsAtDecisions clause [] = Unit {0}
RestsAtDecisions clause (e ∷ older) = RestsBefore clause (known_by older) e.reason × RestsAtDecisions clause older

-- the clauses, and one more
get-append : (clauses : List (List Literal)) (more : List (List Literal)) (k : ℕ) (c : List Literal) → slice_get clauses k ≡ Some c → slice_get (clauses ++ more) k ≡ Some c
get-append [] more k c = λ h. absurd (cc)
get-append (x ∷ clauses) more zero c = λ h. h
get-append (x ∷ clauses) more (suc k) c = λ h. get-append clauses more k c h

get-last : (clauses : List (List Literal)) (clause : List Literal) (k : ℕ) (c : List Literal) → slice_get (clauses ++ clause ∷ []) k ≡ Some c → (slice_get clauses k ≡ Some c) ⊎ (clause ≡ c)
get-last [] clause zero c = λ h. inr (cc)
get-last [] clause (suc k) c = λ h. absurd (cc)
get-last (x ∷ clauses) clause zero c = λ h. inl h
get-last (x ∷ clauses) clause (suc k) c = λ h. get-last clauses clause k c h

module _ (clauses : List (List Literal)) (clause : List Literal) where
  pub rest_after : (known : Known) → AllRest clauses known → Rests known clause → AllRest (clauses ++ clause ∷ []) known
  rest_after known all here k c found = elim (get-last clauses clause k c found) [
    | inl e ↦ all k c e
    | inr e ↦ subst (Rests known) e here
  ]

  reason_after : (known : Known) (l : Literal) (o : Option ℕ) → HasReason clauses known l o → RestsBefore clause known o → HasReason (clauses ++ clause ∷ []) known l o
  reason_after known l None h r = rest_after known h r
  reason_after known l (Some id) h r = record { place = h.place; clause = h.clause; id_is = h.id_is; found = get-append clauses (clause ∷ []) h.place h.clause h.found; unit = h.unit }

  pub reasons_after : (values : List Value) → HaveReasons clauses values → RestsAtDecisions clause values → HaveReasons (clauses ++ clause ∷ []) values
  reasons_after [] h r = tt
  reasons_after (e ∷ older) h r = (reason_after (known_by older) e.lit e.reason h.0 r.0, reasons_after older h.1 r.1)

-- two different literals of the clause that are not false before a decision are not false before an older one
module _ (clause : List Literal) (a b : Literal) (a_in : has clause a ≡ true) (b_in : has clause b ≡ true) (apart : a ≡ b → ⊥) where
  two_open : (known : Known) → known (flip a) ≡ false → known (flip b) ≡ false → Rests known clause
  two_open known f g = inr (record { one = a; two = b; one_in = a_in; two_in = b_in; apart = apart; one_unknown = f; two_unknown = g })

  unknown-older : (e : Value) (older : List Value) (l : Literal) → known_by (e ∷ older) l ≡ false → known_by older l ≡ false
  unknown-older e older l h = false_from_ne_true (known_by older l) (λ k. both_ways (known_by (e ∷ older) l) h (value-older e older l k))

  rests-all : (values : List Value) → known_by values (flip a) ≡ false → known_by values (flip b) ≡ false → RestsAtDecisions clause values
  rests-all [] f g = tt
  rests-all (e ∷ older) f g = let f' = unknown-older e older (flip a) f in let g' = unknown-older e older (flip b) g in
      (by (e.reason) older f' g', rests-all older f' g') where
        by : (o : Option ℕ) (older : List Value) → known_by older (flip a) ≡ false → known_by older (flip b) ≡ false → RestsBefore clause (known_by older) o
        by None older f g = two_open (known_by older) f g
        by (Some i) older f g = tt

  -- it is enough that they are not false before the newest decision that is left
  pub rests_back : (values : List Value) → known_by (before_last values) (flip a) ≡ false → known_by (before_last values) (flip b) ≡ false → RestsAtDecisions clause values
  rests_back [] f g = tt
  rests_back (e ∷ older) f g = by (e.reason) f g (rests_back older) where
    by : (o : Option ℕ) → known_by (elim o as (λ _. List Value) [ None ↦ older | Some i ↦ before_last older ]) (flip a) ≡ false → known_by (elim o as (λ _. List Value) [ None ↦ older | Some i ↦ before_last older ]) (flip b) ≡ false →
        (known_by (before_last older) (flip a) ≡ false → known_by (before_last older) (flip b) ≡ false → RestsAtDecisions clause older) →
        RestsBefore clause (known_by older) o × RestsAtDecisions clause older
    by None f g more = (two_open (known_by older) f g, rests-all older f g)
    by (Some i) f g more = (tt, more f g)

-- with no decision left there is nothing to show
pub rests_at_zero : (clause : List Literal) (values : List Value) → has_decision values ≡ false → RestsAtDecisions clause values
rests_at_zero clause [] h = tt
rests_at_zero clause (e ∷ older) h = by (e.reason) h (rests_at_zero clause older) where
  by : (o : Option ℕ) → elim o as (λ _. Bool) [ None ↦ true | Some i ↦ has_decision older ] ≡ false → (has_decision older ≡ false → RestsAtDecisions clause older) → RestsBefore clause (known_by older) o × RestsAtDecisions clause older
  by None h more = absurd (true≢false h)
  by (Some i) h more = (tt, more h)

-- the values that a backjump leaves
pub reasons_back : (clauses : List (List Literal)) (clause : List Literal) (values : List Value) (after keep : ℕ) → HaveReasons clauses values → IsAnchor values clause after
    → before_last (oldest keep values) ≡ before_last (oldest after values) → has_decision (oldest keep values) ≡ has_decision (oldest after values) → HaveReasons (clauses ++ clause ∷ []) (oldest keep values)
reasons_back clauses clause values after keep reasons anchor same decided = reasons_after clauses clause (oldest keep values) (reasons-drop clauses values (length values - keep) reasons) (by anchor) where
  by : IsAnchor values clause after → RestsAtDecisions clause (oldest keep values)
  by (inl e) = rests_at_zero clause (oldest keep values) (decided ∙ ap has_decision (oldest-none values after (omega (arith, e.1))))
  by (inr s) =
      let step = oldest-step values s.place s.within in
      let up = ap (λ n. oldest n values) s.after_is ∙ step.1 in
      rests_back clause s.one s.two s.one_in s.two_in s.apart (oldest keep values)
      (ap (λ vs. known_by vs (flip s.one)) (same ∙ ap before_last up) ∙ unknown-before step.0 (oldest s.place values) (flip s.one) s.one_unknown)
      (ap (λ vs. known_by vs (flip s.two)) (same ∙ ap before_last up) ∙ unknown-before step.0 (oldest s.place values) (flip s.two) s.two_unknown)
