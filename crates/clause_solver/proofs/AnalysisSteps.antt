-- What the analysis of a conflict keeps from one value to the next older one.
use Rattle.std.proofs.Common.{◌≡◌, ℕ, zero, suc, ◌+◌, ◌-◌, ◌<◌, ◌≤◌, Bool, true, false, List, [], ◌∷◌, ◌++◌, length, map, reverse, ◌⊎◌, inr, refl, sym, ap, ◌∙◌, subst, arith, pos, Option, None, Some, drop}
use Rattle.std.specs.Prelude.{slice_get}
use Rattle.std.proofs.lemmas.Bool.{both_ways, true≢false}
use Rattle.clause_core.specs.Literal.{Literal, flip, has}
use Rattle.lrat_replay.specs.Status.{Known, Rests, IsConflict}
use Rattle.lrat_replay.proofs.Tools.{IsConsistent}
use Rattle.clause_solver.specs.Trail.{known_by, oldest, before_last, has_decision, IsFresh, AreFresh}
use Rattle.clause_solver.specs.Plain.{at_of, AllRest, IsReason, IsConflictAt, HasReason, HaveReasons}
use Rattle.clause_solver.specs.Analysis.{IsReduced, IsSought, MayResolve, MayKeep, IsAsserting, IsAnchor, IsLed}
use Rattle.clause_solver.specs.declared.value.Value.{Value}
use Rattle.clause_solver.proofs.AnalyseLaws.{fresh_consistent, first, passed, kept, reason, resolved_here, same_at, hint_more, AreNumbers, numbers_more}
use Rattle.clause_solver.proofs.Asserting.{sought_first, sought_pass, sought_resolve, sought_keep, sought_end}
use Rattle.clause_solver.proofs.SomeSeen.{below}
use Rattle.clause_solver.proofs.Anchor.{anchored_none, anchored_more}
use Rattle.clause_solver.proofs.Leading.{IsLeading, leading_none, leading_down, leading_more, leading_end}
use Rattle.clause_solver.proofs.Levels.{known-oldest, oldest-all, oldest-none, decision-decided}

-- where the newest decision was made propagation was complete
pub rested : (clauses : List (List Literal)) (values : List Value) → HaveReasons clauses values → has_decision values ≡ true → AllRest clauses (known_by (before_last values))
rested clauses [] h d = absurd (true≢false (sym d))
rested clauses (e ∷ older) h d = by (e.reason) h.0 d (rested clauses older h.1) where
  by : (o : Option ℕ) → HasReason clauses (known_by older) e.lit o → elim o as (λ _. Bool) [ None ↦ true | Some id ↦ has_decision older ] ≡ true → (has_decision older ≡ true → AllRest clauses (known_by (before_last older))) →
      AllRest clauses (known_by (elim o as (λ _. List Value) [ None ↦ older | Some id ↦ before_last older ]))
  by None r d more = r
  by (Some id) r d more = more d

pub record IsAnalysis (clauses : List (List Literal)) (values : List Value) (start place : ℕ) (seen : Known) (clause : List Literal) (ids : List ℕ) (after : ℕ) : Type 0 where
  pub reduced : IsReduced (at_of clauses) (known_by values) (oldest place values) seen clause (map pos (reverse ids))
  pub sought : IsSought (known_by (oldest start values)) (oldest place values) seen clause
  pub anchored : IsAnchor values clause after
  pub leading : IsLeading values start place clause after
  pub numbers : AreNumbers clauses ids

module _ (clauses : List (List Literal)) (values : List Value) (fresh : AreFresh values) (reasons : HaveReasons clauses values) (start : ℕ) (inside : start < length values) where
  pub analysis_first : has_decision values ≡ true → before_last values ≡ oldest start values → (conflict : ℕ) → IsConflictAt clauses (known_by values) conflict → (clause : List Literal) → slice_get clauses conflict ≡ Some clause
      → (seen : Known) → ((l : Literal) → has clause l ≡ true → seen (flip l) ≡ true) → (n : ℕ) → n ≡ length values → (ids : List ℕ) → ids ≡ [] ++ (conflict + 1) ∷ [] → (kept : List Literal) → kept ≡ []
      → IsAnalysis clauses values start n seen kept ids 0
  analysis_first decided newest conflict c clause found seen marked n e ids i none kept_none =
      let same = same_at clauses conflict c.clause clause c.found found in
      let clash = subst (λ w. IsConflict (known_by values) w) same c.conflict in
      let all = oldest-all values n e in
      let closed : Rests (known_by (oldest start values)) clause = subst (λ vs. Rests (known_by vs) clause) newest (rested clauses values reasons decided conflict clause found) in
      subst (λ w. IsAnalysis clauses values start n seen w ids 0) (sym kept_none) (record {
        reduced = first clauses values fresh reasons conflict clause n seen (map pos (reverse ids)) e found clash marked (hint_more [] ids (conflict + 1) i);
        sought = sought_first (known_by (oldest start values)) (oldest n values) (subst (λ vs. IsConsistent (known_by vs)) (sym all) (fresh_consistent values fresh))
            (λ l k. known-oldest values start n l (omega arith) k) clause closed (subst (λ vs. IsConflict (known_by vs) clause) (sym all) clash) seen marked;
        anchored = anchored_none values [] refl;
        leading = leading_none values start n [] refl;
        numbers = numbers_more clauses [] ids (conflict + 1) conflict clause (λ k d h. absurd (omega arith)) i refl found;
      })

  module _ (n m : ℕ) (v : Value) (down : m ≡ n - 1) (some : 0 < n) (few : n ≤ length values) (is : oldest (m + 1) values ≡ v ∷ oldest m values) (fresh_here : IsFresh (known_by (oldest m values)) v.lit)
      (seen : Known) (clause : List Literal) (ids : List ℕ) (after : ℕ) (a : IsAnalysis clauses values start n seen clause ids after) where
    up : oldest n values ≡ v ∷ oldest m values
    up = let e : n ≡ m + 1 = omega arith in ap (λ k. oldest k values) e ∙ is

    sought_here : IsSought (known_by (oldest start values)) (v ∷ oldest m values) seen clause
    sought_here = subst (λ vs. IsSought (known_by (oldest start values)) vs seen clause) up a.sought

    pub analysis_pass : seen v.lit ≡ false → IsAnalysis clauses values start m seen clause ids after
    analysis_pass u = record {
      reduced = passed clauses values fresh reasons n m v down some is fresh_here seen clause (map pos (reverse ids)) a.reduced u;
      sought = sought_pass (known_by (oldest start values)) v (oldest m values) seen clause sought_here u;
      anchored = a.anchored;
      leading = leading_down values start n m clause after (omega arith) a.leading;
      numbers = a.numbers;
    }

    pub reason_here : (id : ℕ) → v.reason ≡ Some id → IsReason clauses (known_by (oldest m values)) v.lit id
    reason_here id e = reason clauses values fresh reasons n m v down some is fresh_here seen clause (map pos (reverse ids)) a.reduced id e

    low : known_by (oldest start values) v.lit ≡ true → (x : Literal) → known_by (oldest m values) x ≡ true → known_by (oldest start values) x ≡ true
    low = below values start seen m v fresh_here

    pub analysis_resolve : (id : ℕ) → MayResolve (known_by (oldest start values)) (oldest m values) seen v id → seen v.lit ≡ true → (k : IsReason clauses (known_by (oldest m values)) v.lit id)
        → (seen' : Known) → ((x : Literal) → seen x ≡ true → seen' x ≡ true) → ((l : Literal) → has k.clause l ≡ true → (v.lit ≡ l) ⊎ (seen' (flip l) ≡ true)) → (ids' : List ℕ) → ids' ≡ ids ++ id ∷ []
        → IsAnalysis clauses values start m seen' clause ids' after
    analysis_resolve id may q k seen' more marked ids' i = record {
      reduced = resolved_here clauses values fresh reasons n m v down some is fresh_here seen clause (map pos (reverse ids)) a.reduced id k seen' (map pos (reverse ids')) more marked (hint_more ids ids' id i);
      sought = sought_resolve (known_by (oldest start values)) v (oldest m values) seen clause sought_here q low seen' more may.place;
      anchored = a.anchored;
      leading = leading_down values start n m clause after (omega arith) a.leading;
      numbers = numbers_more clauses ids ids' id k.place k.clause a.numbers i k.id_is k.found;
    }

    pub analysis_keep : MayKeep (known_by (oldest start values)) (oldest m values) seen v.lit → seen v.lit ≡ true → (clause' : List Literal) → clause' ≡ clause ++ flip v.lit ∷ [] → (after' : ℕ)
        → ((length clause ≡ 1) × (after' ≡ m + 1)) ⊎ ((length clause ≡ 1 → ⊥) × (after' ≡ after)) → IsAnalysis clauses values start m seen clause' ids after'
    analysis_keep may q clause' grown after' choice = record {
      reduced = kept clauses values fresh reasons n m v down some is fresh_here seen clause (map pos (reverse ids)) a.reduced clause' grown;
      sought = subst (λ w. IsSought (known_by (oldest start values)) (oldest m values) seen w) (sym grown) (sought_keep (known_by (oldest start values)) v (oldest m values) seen clause sought_here q low may);
      anchored = anchored_more values m v (omega arith) is fresh_here clause clause' grown (λ l h. subst (λ k. known_by (oldest k values) (flip l) ≡ false) next (a.reduced.apart l h)) after after' choice a.anchored;
      leading = leading_more values start m v is fresh_here seen clause sought_here q low may clause' grown n next after after' choice a.leading;
      numbers = a.numbers;
    } where
      next : n ≡ m + 1
      next = omega arith

  pub analysis_last : (n : ℕ) (seen : Known) (clause : List Literal) (ids : List ℕ) (after : ℕ) → n ≤ 0 → IsAnalysis clauses values start n seen clause ids after → IsAsserting (known_by (oldest start values)) clause
  analysis_last n seen clause ids after e a =
      let f = sought_end (known_by (oldest start values)) seen clause (subst (λ vs. IsSought (known_by (oldest start values)) vs seen clause) (oldest-none values n e) a.sought) in
      record { lit = f.lit; is_in = f.is_in; unknown = f.fresh.unknown; others = f.others }

  pub analysis_led : (n : ℕ) (seen : Known) (clause : List Literal) (ids : List ℕ) (after : ℕ) → n ≤ 0 → IsAnalysis clauses values start n seen clause ids after → IsLed values start clause after
  analysis_led n seen clause ids after e a =
      let f = sought_end (known_by (oldest start values)) seen clause (subst (λ vs. IsSought (known_by (oldest start values)) vs seen clause) (oldest-none values n e) a.sought) in
      leading_end values start n clause after f.lit f.is_in a.leading

-- with no decision each value has a reason, and nothing is kept
pub record IsRefuting (clauses : List (List Literal)) (values : List Value) (place : ℕ) (seen : Known) (ids : List ℕ) : Type 0 where
  pub reduced : IsReduced (at_of clauses) (known_by values) (oldest place values) seen [] (map pos (reverse ids))
  pub numbers : AreNumbers clauses ids

-- no value was decided
some_drop : (values : List Value) (n : ℕ) → has_decision (drop n values) ≡ true → has_decision values ≡ true
some_drop values zero h = h
some_drop [] (suc n) h = h
some_drop (x ∷ older) (suc n) h = by (x.reason) (some_drop older n h) where
  by : (o : Option ℕ) → has_decision older ≡ true → elim o as (λ _. Bool) [ None ↦ true | Some id ↦ has_decision older ] ≡ true
  by None k = refl
  by (Some id) k = k

pub not_decided : (values : List Value) (place : ℕ) (v : Value) → oldest (place + 1) values ≡ v ∷ oldest place values → has_decision values ≡ false → v.reason ≡ None → ⊥
not_decided values place v is none e =
    both_ways (has_decision values) none (some_drop values (length values - (place + 1)) (subst (λ vs. has_decision vs ≡ true) (sym is) (decision-decided v (oldest place values) e)))

module _ (clauses : List (List Literal)) (values : List Value) (fresh : AreFresh values) (reasons : HaveReasons clauses values) where
  pub refuting_first : (conflict : ℕ) → IsConflictAt clauses (known_by values) conflict → (clause : List Literal) → slice_get clauses conflict ≡ Some clause
      → (seen : Known) → ((l : Literal) → has clause l ≡ true → seen (flip l) ≡ true) → (n : ℕ) → n ≡ length values → (ids : List ℕ) → ids ≡ [] ++ (conflict + 1) ∷ [] → IsRefuting clauses values n seen ids
  refuting_first conflict c clause found seen marked n e ids i =
      let clash = subst (λ w. IsConflict (known_by values) w) (same_at clauses conflict c.clause clause c.found found) c.conflict in
      record {
        reduced = first clauses values fresh reasons conflict clause n seen (map pos (reverse ids)) e found clash marked (hint_more [] ids (conflict + 1) i);
        numbers = numbers_more clauses [] ids (conflict + 1) conflict clause (λ k d h. absurd (omega arith)) i refl found;
      }

  module _ (n m : ℕ) (v : Value) (down : m ≡ n - 1) (some : 0 < n) (is : oldest (m + 1) values ≡ v ∷ oldest m values) (fresh_here : IsFresh (known_by (oldest m values)) v.lit)
      (seen : Known) (ids : List ℕ) (a : IsRefuting clauses values n seen ids) where
    pub refuting_pass : seen v.lit ≡ false → IsRefuting clauses values m seen ids
    refuting_pass u = record { reduced = passed clauses values fresh reasons n m v down some is fresh_here seen [] (map pos (reverse ids)) a.reduced u; numbers = a.numbers }

    pub refuting_reason : (id : ℕ) → v.reason ≡ Some id → IsReason clauses (known_by (oldest m values)) v.lit id
    refuting_reason id e = reason clauses values fresh reasons n m v down some is fresh_here seen [] (map pos (reverse ids)) a.reduced id e

    pub refuting_resolve : (id : ℕ) (k : IsReason clauses (known_by (oldest m values)) v.lit id)
        → (seen' : Known) → ((x : Literal) → seen x ≡ true → seen' x ≡ true) → ((l : Literal) → has k.clause l ≡ true → seen' (flip l) ≡ true) → (ids' : List ℕ) → ids' ≡ ids ++ id ∷ []
        → IsRefuting clauses values m seen' ids'
    refuting_resolve id k seen' more marked ids' i = record {
      reduced = resolved_here clauses values fresh reasons n m v down some is fresh_here seen [] (map pos (reverse ids)) a.reduced id k seen' (map pos (reverse ids')) more (λ l h. inr (marked l h)) (hint_more ids ids' id i);
      numbers = numbers_more clauses ids ids' id k.place k.clause a.numbers i k.id_is k.found;
    }
