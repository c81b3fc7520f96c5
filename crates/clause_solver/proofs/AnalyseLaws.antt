-- Steps of analysis over the places of a trail.
use Rattle.std.proofs.Common.{◌≡◌, ℕ, zero, suc, ◌+◌, ◌-◌, ◌<◌, ◌≤◌, Bool, true, false, ◌||◌, List, [], ◌∷◌, ◌++◌, length, drop, map, reverse, ◌⊎◌, inl, inr, refl, ap, sym, ◌∙◌, subst, ℤ, pos, Option, None, Some, arith, add-one}
use Rattle.std.specs.Prelude.{slice_get, All}
use Rattle.std.proofs.lemmas.List.{reverse-append}
use Rattle.std.specs.List.{AllByRecursion}
use Rattle.std.proofs.lemmas.List.Elements.{All-push, All-from_recursion, recursion_from_All}
use Rattle.clause_solver.proofs.Levels.{oldest-all, oldest-none}
use Rattle.std.proofs.lemmas.Bool.{or_cases, both_ways, true≢false}
use Rattle.clause_core.specs.Literal.{Literal, flip, same, has}
use Rattle.clause_core.proofs.Tools.{flip-flip, same-true, same-flip, same-at}
use Rattle.lrat_replay.specs.Status.{Known, IsConflict}
use Rattle.lrat_replay.specs.Book.{run, Accepted, denied}
use Rattle.lrat_replay.proofs.Tools.{IsConsistent, IsWithin}
use Rattle.clause_solver.specs.Trail.{known_by, IsFresh, AreFresh, oldest}
use Rattle.clause_solver.specs.Plain.{at_of, IsReason, HasReason, HaveReasons}
use Rattle.clause_solver.specs.Analysis.{IsReduced}
use Rattle.clause_solver.specs.declared.value.Value.{Value}
use Rattle.clause_solver.proofs.Reduce.{reduced_first, reduced_pass, reduced_keep, reduced_resolve, reduced_end}
use Rattle.clause_solver.proofs.TrailPlaces.{known-drop}
use Rattle.clause_solver.proofs.Propagation.{get_inside}

pub value_cases : (e : Value) (older : List Value) (l : Literal) → known_by (e ∷ older) l ≡ true → (e.lit ≡ l) ⊎ (known_by older l ≡ true)
value_cases e older l h = elim (or_cases (same e.lit l) (known_by older l) h) [ inl k ↦ inl (same-true e.lit l k) | inr k ↦ inr k ]

pub fresh_consistent : (values : List Value) → AreFresh values → IsConsistent (known_by values)
fresh_consistent [] f l a b = true≢false (sym a)
fresh_consistent (e ∷ older) f l a b = elim (value_cases e older l a) [
  | inl p ↦ elim (value_cases e older (flip l) b) [
    | inl q ↦ same-flip l (same-at l (flip l) (sym p ∙ q))
    | inr q ↦ both_ways (known_by older (flip e.lit)) f.0.flip_unknown (ap (λ x. known_by older (flip x)) p ∙ q)
  ]
  | inr p ↦ elim (value_cases e older (flip l) b) [
    | inl q ↦ both_ways (known_by older (flip e.lit)) f.0.flip_unknown (ap (λ x. known_by older (flip x)) q ∙ ap (known_by older) (flip-flip l) ∙ p)
    | inr q ↦ fresh_consistent older f.1 l p q
  ]
]

pub reasons-drop : (clauses : List (List Literal)) (values : List Value) (n : ℕ) → HaveReasons clauses values → HaveReasons clauses (drop n values)
reasons-drop clauses values zero h = h
reasons-drop clauses [] (suc n) h = tt
reasons-drop clauses (e ∷ older) (suc n) h = reasons-drop clauses older n h.1

at_found : (clauses : List (List Literal)) (id place : ℕ) (clause : List Literal) → id ≡ place + 1 → slice_get clauses place ≡ Some clause → at_of clauses id ≡ Some clause
at_found clauses id place clause e f = ap (at_of clauses) (e ∙ add-one place) ∙ f

reason_of : (clauses : List (List Literal)) (known : Known) (l : Literal) (reason : Option ℕ) (id : ℕ) → reason ≡ Some id → HasReason clauses known l reason → IsReason clauses known l id
reason_of clauses known l None id e c = absurd (cc)
reason_of clauses known l (Some i) id e c = let same_id : i ≡ id = cc in subst (IsReason clauses known l) same_id c

has-push_is : (xs : List Literal) (x l : Literal) → has (xs ++ x ∷ []) l ≡ has (x ∷ xs) l
has-push_is [] x l = refl
has-push_is (y ∷ ys) x l = ap (λ b. same y l || b) (has-push_is ys x l) ∙ swap (same y l) (same x l) (has ys l) where
  swap : (a b c : Bool) → (a || (b || c)) ≡ (b || (a || c))
  swap a b c = grind arith

reduced_same : (at : ℕ → Option (List Literal)) (all : Known) (older : List Value) (seen : Known) (c d : List Literal) (hints : List ℤ) → ((l : Literal) → has d l ≡ has c l) → IsReduced at all older seen c hints → IsReduced at all older seen d hints
reduced_same at all older seen c d hints e r = record {
  is_false = λ l m. r.is_false l (sym (e l) ∙ m);
  apart = λ l m. r.apart l (sym (e l) ∙ m);
  accepts = λ known inside needs denies. r.accepts known (λ x k. elim (inside x k) [ inl o ↦ inl o | inr n ↦ inr (sym (e (flip x)) ∙ n) ]) needs (λ l m. denies l (e l ∙ m));
}

module _ (clauses : List (List Literal)) (values : List Value) (fresh : AreFresh values) (reasons : HaveReasons clauses values) where
  pub first : (place : ℕ) (conflict : List Literal) (n : ℕ) (seen : Known) (hints : List ℤ) → n ≡ length values → slice_get clauses place ≡ Some conflict → IsConflict (known_by values) conflict →
      ((l : Literal) → has conflict l ≡ true → seen (flip l) ≡ true) → hints ≡ pos (place + 1) ∷ [] → IsReduced (at_of clauses) (known_by values) (oldest n values) seen [] hints
  first place conflict n seen hints e found clash marked h =
      subst (λ hs. IsReduced (at_of clauses) (known_by values) (oldest n values) seen [] hs) (sym h)
      (subst (λ vs. IsReduced (at_of clauses) (known_by values) vs seen [] (pos (place + 1) ∷ [])) (sym (oldest-all values n e))
      (reduced_first (at_of clauses) (known_by values) (fresh_consistent values fresh) values (λ l k. k) (place + 1) conflict (at_found clauses (place + 1) place conflict refl found) clash seen marked))

  -- from one place to the next older one
  module _ (n m : ℕ) (v : Value) (down : m ≡ n - 1) (some : 0 < n) (is : oldest (m + 1) values ≡ v ∷ oldest m values) (fresh_here : IsFresh (known_by (oldest m values)) v.lit) (seen : Known) (clause : List Literal) (hints : List ℤ)
      (r : IsReduced (at_of clauses) (known_by values) (oldest n values) seen clause hints) where
    up : oldest n values ≡ v ∷ oldest m values
    up = let e : n ≡ m + 1 = omega arith in ap (λ k. oldest k values) e ∙ is

    here : IsReduced (at_of clauses) (known_by values) (v ∷ oldest m values) seen clause hints
    here = subst (λ vs. IsReduced (at_of clauses) (known_by values) vs seen clause hints) up r

    within : IsWithin (known_by (v ∷ oldest m values)) (known_by values)
    within l k = known-drop values (length values - n) l (subst (λ vs. known_by vs l ≡ true) (sym up) k)

    pub passed : seen v.lit ≡ false → IsReduced (at_of clauses) (known_by values) (oldest m values) seen clause hints
    passed u = reduced_pass (at_of clauses) (known_by values) (fresh_consistent values fresh) v (oldest m values) within fresh_here seen clause hints here u

    pub kept : (clause' : List Literal) → clause' ≡ clause ++ flip v.lit ∷ [] → IsReduced (at_of clauses) (known_by values) (oldest m values) seen clause' hints
    kept clause' e = reduced_same (at_of clauses) (known_by values) (oldest m values) seen (flip v.lit ∷ clause) clause' hints (λ l. ap (λ c. has c l) e ∙ has-push_is clause (flip v.lit) l)
        (reduced_keep (at_of clauses) (known_by values) (fresh_consistent values fresh) v (oldest m values) within fresh_here seen clause hints here)

    pub reason : (id : ℕ) → v.reason ≡ Some id → IsReason clauses (known_by (oldest m values)) v.lit id
    reason id e = reason_of clauses (known_by (oldest m values)) v.lit v.reason id e (subst (HaveReasons clauses) up (reasons-drop clauses values (length values - n) reasons)).0

    pub resolved_here : (id : ℕ) (k : IsReason clauses (known_by (oldest m values)) v.lit id) (seen' : Known) (hints' : List ℤ) → ((x : Literal) → seen x ≡ true → seen' x ≡ true) → ((l : Literal) → has k.clause l ≡ true → (v.lit ≡ l) ⊎ (seen' (flip l) ≡ true)) → hints' ≡ pos id ∷ hints →
        IsReduced (at_of clauses) (known_by values) (oldest m values) seen' clause hints'
    resolved_here id k seen' hints' more marked h =
        subst (λ hs. IsReduced (at_of clauses) (known_by values) (oldest m values) seen' clause hs) (sym h)
        (reduced_resolve (at_of clauses) (known_by values) (fresh_consistent values fresh) v (oldest m values) within fresh_here seen clause hints here id k.clause (at_found clauses id k.place k.clause k.id_is k.found) k.unit seen' more marked)

  pub last : (seen : Known) (clause : List Literal) (hints : List ℤ) (n : ℕ) → n ≤ 0 → IsReduced (at_of clauses) (known_by values) (oldest n values) seen clause hints → run (at_of clauses) (denied clause) hints ≡ Accepted
  last seen clause hints n e r = reduced_end (at_of clauses) (known_by values) (fresh_consistent values fresh) seen clause hints
      (subst (λ vs. IsReduced (at_of clauses) (known_by values) vs seen clause hints) (oldest-none values n e) r)

pub same_at : (clauses : List (List Literal)) (i : ℕ) (c d : List Literal) → slice_get clauses i ≡ Some c → slice_get clauses i ≡ Some d → c ≡ d
same_at clauses i c d e f = let g : Some c ≡ Some d = sym e ∙ f in cc

pub hint_more : (hints hints' : List ℕ) (id : ℕ) → hints' ≡ hints ++ id ∷ [] → map pos (reverse hints') ≡ pos id ∷ map pos (reverse hints)
hint_more hints hints' id e = ap (λ hs. map pos (reverse hs)) e ∙ ap (map pos) (reverse-append hints (id ∷ []))

-- identifiers of clauses
abbrev pub AreNumbers : List (List Literal) → List ℕ → Type 0
AreNumbers clauses ids = All (λ id. (0 < id) × (id ≤ length clauses)) ids

pub numbers_more : (clauses : List (List Literal)) (ids ids' : List ℕ) (id place : ℕ) (clause : List Literal) → AreNumbers clauses ids → ids' ≡ ids ++ id ∷ [] → id ≡ place + 1 → slice_get clauses place ≡ Some clause → AreNumbers clauses ids'
numbers_more clauses ids ids' id place clause h e at found =
    let inside = (get_inside clauses place clause found).0 in
    subst (AreNumbers clauses) (sym e) (All-push (λ (i : ℕ). (0 < i) × (i ≤ length clauses)) ids id h (omega arith, omega arith))

pub numbers_reverse : (clauses : List (List Literal)) (ids : List ℕ) → AreNumbers clauses ids → AreNumbers clauses (reverse ids)
numbers_reverse clauses ids h = All-from_recursion (λ (i : ℕ). (0 < i) × (i ≤ length clauses)) (reverse ids) (by ids (recursion_from_All (λ (i : ℕ). (0 < i) × (i ≤ length clauses)) ids h)) where
  append : (a b : List ℕ) → AllByRecursion (λ (i : ℕ). (0 < i) × (i ≤ length clauses)) a → AllByRecursion (λ (i : ℕ). (0 < i) × (i ≤ length clauses)) b → AllByRecursion (λ (i : ℕ). (0 < i) × (i ≤ length clauses)) (a ++ b)
  append [] b h k = k
  append (x ∷ a) b h k = (h.0, append a b h.1 k)

  by : (ids : List ℕ) → AllByRecursion (λ (i : ℕ). (0 < i) × (i ≤ length clauses)) ids → AllByRecursion (λ (i : ℕ). (0 < i) × (i ≤ length clauses)) (reverse ids)
  by [] h = tt
  by (x ∷ ids) h = subst (AllByRecursion (λ (i : ℕ). (0 < i) × (i ≤ length clauses))) (sym (reverse-append (x ∷ []) ids)) (append (reverse ids) (x ∷ []) (by ids h.1) (h.0, tt))
