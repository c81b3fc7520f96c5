-- A learned clause is new and gains, and its hints are accepted.
use Rattle.std.proofs.Common.{◌≡◌, ℕ, suc, ◌+◌, ◌==◌, true, false, not, cond, List, [], ◌∷◌, ◌⊎◌, inl, inr, refl, arith, ap, sym, ◌∙◌, subst, None, Some}
use Rattle.std.specs.List.{Contains}
use Rattle.std.specs.FinSet as set
use Rattle.std.proofs.lemmas.Bool.{and_parts, both_ways, true≢false, not-true, false_from_ne_true}
use Rattle.std.proofs.lemmas.List.Elements.{Contains-append_right}
use Rattle.clause_core.specs.Literal.{Literal, flip, same, has}
use Rattle.clause_core.proofs.Tools.{flip-flip, same-at}
use Rattle.lrat_replay.specs.Status.{Known, Rests}
use Rattle.std.specs.Prelude.{slice_get}
use Rattle.clause_solver.specs.Copy.{IsCopy}
use Rattle.clause_solver.specs.Plain.{AllRest}
use Rattle.lrat_replay.specs.Book.{Book, Numbered, numbered, all_of, find, live, last_id, denied}
use Rattle.lrat_replay.specs.New.{IsSubset, IsNew, TellsPropagation, IsUndecided, denied_but}
use Rattle.lrat_replay.proofs.Tools.{addition-passed, Contains-cases, IsConsistent, IsWithin, stays}

-- literals under which no clause forces anything: a trail at the moment of a decision
pub record IsClosed (book : Book) (all : Known) : Type 0 where
  pub consistent : IsConsistent all
  pub rests : (step : Numbered) → Contains (all_of book) step → Rests all step.clause

find-in : (steps : List Numbered) (id : ℕ) (clause : List Literal) → find steps id ≡ Some clause → (step : Numbered) × Contains steps step × (step.clause ≡ clause)
find-in [] id clause = λ h. absurd (cc)
find-in (step ∷ steps) id clause = elim (step.id == id) as (λ b. cond b (Some step.clause) (find steps id) ≡ Some clause → (s : Numbered) × Contains (step ∷ steps) s × (s.clause ≡ clause)) [
  | true ↦ λ h. (step, (0, omega arith, refl), cc)
  | false ↦ λ h. let r = find-in steps id clause h in (r.0, Contains-append_right (step ∷ []) steps r.0 r.1, r.2)
]

live-find : (book : Book) (id : ℕ) (clause : List Literal) → live book id ≡ Some clause → find (all_of book) id ≡ Some clause
live-find book id clause = elim (set.contains book.deleted id) as (λ b. cond b None (find (all_of book) id) ≡ Some clause → find (all_of book) id ≡ Some clause) [
  | true ↦ λ h. absurd (cc)
  | false ↦ λ h. h
]

module _ (book : Book) (all : Known) (closed : IsClosed book all) where
  pub live_rests : (id : ℕ) (clause : List Literal) → live book id ≡ Some clause → Rests all clause
  live_rests id clause h = let r = find-in (all_of book) id clause (live-find book id clause h) in subst (Rests all) r.2 (closed.rests r.0 r.1)

  -- propagation after level zero is complete shows nothing
  pub undecided : IsUndecided book
  undecided hints h = (stays (live book) all closed.consistent live_rests (denied []) (λ l m. absurd (true≢false (sym m))) hints).0 (addition-passed book (last_id book + 1) [] hints h).ran

  -- the literals of a learned clause are false before the last decision, but for the one that it asserts, which has no value there
  module _ (clause : List Literal) (a : Literal) (a_in : has clause a ≡ true) (a_unknown : all a ≡ false) (others : (l : Literal) → has clause l ≡ true → (a ≡ l) ⊎ (all (flip l) ≡ true)) where
    denied_within : IsWithin (denied_but clause a) all
    denied_within x h = let p = and_parts (has clause (flip x)) (not (same (flip x) a)) h in elim (others (flip x) p.0) [
      | inl e ↦ absurd (both_ways (same (flip x) a) (not-true (same (flip x) a) p.1) (same-at (flip x) a (sym e)))
      | inr e ↦ ap all (sym (flip-flip x)) ∙ e
    ]

    pub learned_tells : TellsPropagation book clause
    learned_tells = record {
      lit = a;
      is_in = a_in;
      is_free = record {
        not_accepted = λ hints. (stays (live book) all closed.consistent live_rests (denied_but clause a) denied_within hints).0;
        not_true = λ hints known h. false_from_ne_true (known a) (λ t. both_ways (all a) a_unknown ((stays (live book) all closed.consistent live_rests (denied_but clause a) denied_within hints).1 known h a t));
      };
    }

    no_subset : (step : List Literal) → Rests all step → IsSubset step clause → ⊥
    no_subset step r sub = elim r [
      | inl s ↦ elim (others s.lit (sub s.lit s.is_in)) [
        | inl e ↦ both_ways (all a) a_unknown (ap all e ∙ s.is_known)
        | inr e ↦ closed.consistent s.lit s.is_known e
      ]
      | inr w ↦ elim (others w.one (sub w.one w.one_in)) [
        | inl e ↦ elim (others w.two (sub w.two w.two_in)) [
          | inl f ↦ w.apart (sym e ∙ f)
          | inr f ↦ both_ways (all (flip w.two)) w.two_unknown f
        ]
        | inr e ↦ both_ways (all (flip w.one)) w.one_unknown e
      ]
    ]

    pub learned_new : IsNew book clause
    learned_new = record {
      some = λ e. true≢false (sym (subst (λ c. has c a ≡ true) e a_in));
      none_within = λ step m sub. no_subset step.clause (closed.rests step m) sub;
    }

-- clauses that count up, by their places
pub numbered-at : (n : ℕ) (clauses : List (List Literal)) (step : Numbered) → Contains (numbered n clauses) step → (k : ℕ) × (slice_get clauses k ≡ Some step.clause)
numbered-at n [] step m = absurd (omega arith)
numbered-at n (c ∷ clauses) step m = elim (Contains-cases (record { id = n; clause = c }) (numbered (n + 1) clauses) step m) [
  | inl e ↦ (0, ap Some (ap (λ (s : Numbered). s.clause) e))
  | inr e ↦ let r = numbered-at (n + 1) clauses step e in (suc r.0, r.1)
]

-- where each of its clauses rests the book is closed
pub closed_copy : (book : Book) (clauses : List (List Literal)) (all : Known) → IsCopy book clauses → IsConsistent all → AllRest clauses all → IsClosed book all
closed_copy book clauses all copy consistent rest = record {
  consistent = consistent;
  rests = λ step m. let r = numbered-at 1 clauses step (subst (λ steps. Contains steps step) copy.same m) in rest r.0 step.clause r.1;
}
