-- The analysis of a conflict by places that were met.
use Rattle.std.proofs.Common.{◌≡◌, ℕ, ◌+◌, ◌-◌, ◌<◌, ◌≤◌, true, false, List, [], ◌∷◌, ◌++◌, length, ◌⊎◌, inl, inr, sym, ap, ◌∙◌, subst, arith, Some}
use Rattle.std.specs.Prelude.{slice_get}
use Rattle.clause_core.specs.Literal.{Literal, flip, has}
use Rattle.clause_solver.specs.Trail.{known_by, oldest, IsFresh, AreFresh}
use Rattle.clause_solver.specs.Plain.{IsReason, IsConflictAt, HaveReasons}
use Rattle.clause_solver.specs.Analysis.{MayResolve, MayKeep}
use Rattle.clause_solver.specs.Met.{is_met, seen_of}
use Rattle.clause_solver.specs.declared.met.Met.{Met}
use Rattle.clause_solver.specs.declared.value.Value.{Value}
use Rattle.clause_solver.proofs.AnalyseLaws.{same_at}
use Rattle.clause_solver.proofs.AnalysisSteps.{IsAnalysis, analysis_pass, analysis_resolve, analysis_keep, reason_here}
use Rattle.clause_solver.proofs.Placing.{met_at, unmet_at, there}
use Rattle.clause_solver.proofs.Propagation.{get_inside}
use Rattle.clause_solver.proofs.TrailPlaces.{known-drop}

-- the literals of a clause in conflict are false
pub conflict_false : (clauses : List (List Literal)) (values : List Value) (place : ℕ) (clause : List Literal) → IsConflictAt clauses (known_by values) place → slice_get clauses place ≡ Some clause
    → (l : Literal) → has clause l ≡ true → known_by values (flip l) ≡ true
conflict_false clauses values place clause c found l h =
    let same = same_at clauses place c.clause clause c.found found in c.conflict.all l (subst (λ w. has w l ≡ true) (sym same) h)

module _ (clauses : List (List Literal)) (values : List Value) (fresh : AreFresh values) (reasons : HaveReasons clauses values) (start : ℕ) (inside : start < length values)
    (n m : ℕ) (down : m ≡ n - 1) (some : 0 < n) (few : n ≤ length values) (met : Met) (clause : List Literal) (ids : List ℕ) (after : ℕ) (a : IsAnalysis clauses values start n (seen_of met values) clause ids after) where
  pub place_pass : is_met met m ≡ false → IsAnalysis clauses values start m (seen_of met values) clause ids after
  place_pass u =
      let v = there values m fresh (omega arith) in
      analysis_pass clauses values fresh reasons start inside n m v.0 down some few v.1.is v.1.fresh (seen_of met values) clause ids after a (unmet_at (is_met met) values m v.0 fresh (omega arith) v.1.is u)

  module _ (v : Value) (is : oldest (m + 1) values ≡ v ∷ oldest m values) (fresh_here : IsFresh (known_by (oldest m values)) v.lit) where
    reason_is : (id : ℕ) → v.reason ≡ Some id → IsReason clauses (known_by (oldest m values)) v.lit id
    reason_is = reason_here clauses values fresh reasons start inside n m v down some few is fresh_here (seen_of met values) clause ids after a

    -- the reason is the clause at the place before its identifier
    pub place_reason : (id : ℕ) → v.reason ≡ Some id → (0 < id) × (id - 1 < length clauses)
    place_reason id e =
        let k = reason_is id e in
        let within = (get_inside clauses k.place k.clause k.found).0 in
        let is_next = k.id_is in
        (omega arith, omega arith)

    same_clause : (id : ℕ) (e : v.reason ≡ Some id) (w : List Literal) → slice_get clauses (id - 1) ≡ Some w → (reason_is id e).clause ≡ w
    same_clause id e w found =
        let k = reason_is id e in
        let is_next = k.id_is in
        let place : id - 1 ≡ k.place = omega arith in
        same_at clauses k.place k.clause w k.found (ap (λ j. slice_get clauses j) (sym place) ∙ found)

    pub place_others : (id : ℕ) (e : v.reason ≡ Some id) (w : List Literal) → slice_get clauses (id - 1) ≡ Some w → (l : Literal) → has w l ≡ true → (v.lit ≡ l) ⊎ (known_by values (flip l) ≡ true)
    place_others id e w found l h =
        let k = reason_is id e in
        elim (k.unit.others l (subst (λ c. has c l ≡ true) (sym (same_clause id e w found)) h)) [ inl q ↦ inl q | inr q ↦ inr (known-drop values (length values - m) (flip l) q) ]

    module _ (h : is_met met m ≡ true) where
      seen_here : seen_of met values v.lit ≡ true
      seen_here = met_at (is_met met) values m v (omega arith) is h

      pub place_resolve : (id : ℕ) → MayResolve (known_by (oldest start values)) (oldest m values) (seen_of met values) v id → (w : List Literal) → slice_get clauses (id - 1) ≡ Some w
          → (met' : Met) → ((x : Literal) → seen_of met values x ≡ true → seen_of met' values x ≡ true) → ((l : Literal) → has w l ≡ true → (v.lit ≡ l) ⊎ (seen_of met' values (flip l) ≡ true)) → (ids' : List ℕ) → ids' ≡ ids ++ id ∷ []
          → IsAnalysis clauses values start m (seen_of met' values) clause ids' after
      place_resolve id may w found met' more marked ids' i =
          analysis_resolve clauses values fresh reasons start inside n m v down some few is fresh_here (seen_of met values) clause ids after a id may seen_here (reason_is id may.reason)
          (seen_of met' values) more (λ l q. marked l (subst (λ c. has c l ≡ true) (same_clause id may.reason w found) q)) ids' i

      pub place_keep : MayKeep (known_by (oldest start values)) (oldest m values) (seen_of met values) v.lit → (clause' : List Literal) → clause' ≡ clause ++ flip v.lit ∷ [] → (after' : ℕ)
          → ((length clause ≡ 1) × (after' ≡ m + 1)) ⊎ ((length clause ≡ 1 → ⊥) × (after' ≡ after)) → IsAnalysis clauses values start m (seen_of met values) clause' ids after'
      place_keep may = analysis_keep clauses values fresh reasons start inside n m v down some few is fresh_here (seen_of met values) clause ids after a may seen_here
