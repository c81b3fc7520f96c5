-- The first literal of a learned clause, and how many values stay.
use Rattle.std.proofs.Common.{◌≡◌, ℕ, ◌+◌, ◌<◌, ◌≤◌, true, List, [], ◌∷◌, ◌++◌, length, ◌⊎◌, inl, inr, refl, sym, ap, ◌∙◌, subst, arith, Some}
use Rattle.std.specs.Prelude.{slice_get}
use Rattle.std.proofs.lemmas.Bool.{both_ways, true≢false}
use Rattle.clause_core.specs.Literal.{Literal, flip, has}
use Rattle.clause_core.proofs.Tools.{flip-flip, has-cases}
use Rattle.lrat_replay.specs.Status.{Known}
use Rattle.clause_solver.specs.Trail.{known_by, oldest, IsFresh}
use Rattle.clause_solver.specs.Analysis.{IsSomeSeen, IsSought, MayKeep, IsLed}
use Rattle.clause_solver.specs.declared.value.Value.{Value}
use Rattle.clause_solver.proofs.Reduce.{value-first}
use Rattle.clause_solver.proofs.AnalyseLaws.{value_cases}
use Rattle.clause_solver.proofs.Marking.{has-push}
use Rattle.clause_solver.proofs.Levels.{known-oldest}

-- n: how many values the analysis has not come to
abbrev pub IsLeading : List Value → ℕ → ℕ → List Literal → ℕ → Type 0
IsLeading values start n clause after = ((clause ≡ []) × (after ≡ 0)) ⊎ (IsLed values start clause after × ((length clause ≡ 1 → ⊥) → n ≤ after))

pub leading_none : (values : List Value) (start n : ℕ) (clause : List Literal) → clause ≡ [] → IsLeading values start n clause 0
leading_none values start n clause e = inl (e, refl)

pub leading_down : (values : List Value) (start n m : ℕ) (clause : List Literal) (after : ℕ) → m ≤ n → IsLeading values start n clause after → IsLeading values start m clause after
leading_down values start n m clause after h (inl e) = inl e
leading_down values start n m clause after h (inr l) = inr (l.0, λ k. let b = l.1 k in omega arith)

empty_has : (clause : List Literal) (l : Literal) → clause ≡ [] → has clause l ≡ true → ⊥
empty_has clause l e h = true≢false (sym h ∙ ap (λ c. has c l) e)

pub leading_end : (values : List Value) (start n : ℕ) (clause : List Literal) (after : ℕ) (l : Literal) → has clause l ≡ true → IsLeading values start n clause after → IsLed values start clause after
leading_end values start n clause after l h (inl e) = absurd (empty_has clause l e.0 h)
leading_end values start n clause after l h (inr k) = k.0

-- one more literal is kept
module _ (values : List Value) (start m : ℕ) (v : Value) (is : oldest (m + 1) values ≡ v ∷ oldest m values) (fresh : IsFresh (known_by (oldest m values)) v.lit) (seen : Known) (clause : List Literal)
    (sought : IsSought (known_by (oldest start values)) (v ∷ oldest m values) seen clause) (q : seen v.lit ≡ true)
    (low : known_by (oldest start values) v.lit ≡ true → (x : Literal) → known_by (oldest m values) x ≡ true → known_by (oldest start values) x ≡ true)
    (may : MayKeep (known_by (oldest start values)) (oldest m values) seen v.lit) (clause' : List Literal) (grown : clause' ≡ clause ++ flip v.lit ∷ []) (n : ℕ) (next : n ≡ m + 1) where
  not_low : IsSomeSeen (known_by (oldest start values)) (v ∷ oldest m values) seen → known_by (oldest start values) v.lit ≡ true → ⊥
  not_low s b = elim (value_cases v (oldest m values) s.lit s.is_now) [
    | inl e ↦ both_ways (known_by (oldest start values) s.lit) s.is_late (ap (known_by (oldest start values)) (sym e) ∙ b)
    | inr e ↦ both_ways (known_by (oldest start values) s.lit) s.is_late (low b s.lit e)
  ]

  flip_fresh : IsFresh (known_by (oldest start values)) v.lit → IsFresh (known_by (oldest start values)) (flip v.lit)
  flip_fresh f = record { unknown = f.flip_unknown; flip_unknown = ap (known_by (oldest start values)) (flip-flip v.lit) ∙ f.unknown }

  first_fresh : clause ≡ [] → IsFresh (known_by (oldest start values)) (flip v.lit)
  first_fresh e = elim may [
    | inl f ↦ flip_fresh f.0
    | inr b ↦ elim sought [
      | inl s ↦ absurd (not_low s.1 b)
      | inr f ↦ absurd (empty_has clause f.lit e f.is_in)
    ]
  ]

  pub leading_more : (after after' : ℕ) → ((length clause ≡ 1) × (after' ≡ m + 1)) ⊎ ((length clause ≡ 1 → ⊥) × (after' ≡ after)) → IsLeading values start n clause after → IsLeading values start m clause' after'
  leading_more after after' choice (inl e) =
      let whole : clause' ≡ flip v.lit ∷ [] = grown ∙ ap (λ c. c ++ flip v.lit ∷ []) e.0 in
      let none : after' ≡ 0 = elim choice [
        | inl k ↦ (let l = ap length e.0 in let j = k.0 in absurd (omega arith))
        | inr k ↦ k.1 ∙ e.1
      ] in
      inr (
        record {
          first = flip v.lit;
          at = ap (λ c. slice_get c 0) whole;
          fresh = first_fresh e.0;
          within = omega arith;
          others = λ l h. elim (has-cases (flip v.lit) l [] (subst (λ c. has c l ≡ true) whole h)) [ inl s ↦ inl s | inr s ↦ absurd (true≢false (sym s)) ];
        },
        λ k. absurd (k (ap length whole)),
      )
  leading_more after after' choice (inr k) =
      let led = k.0 in
      let b : known_by (oldest start values) v.lit ≡ true = elim sought [
        | inl s ↦ absurd (no_first clause led.first s.0 led.at)
        | inr f ↦ f.none v.lit q (value-first v (oldest m values))
      ] in
      let below : m < start = elim (order start m) [ inl h ↦ absurd (both_ways (known_by (oldest m values) v.lit) fresh.unknown (known-oldest values start m v.lit h b)) | inr h ↦ h ] in
      let pushed : (l : Literal) → flip v.lit ≡ l → known_by (oldest (m + 1) values) (flip l) ≡ true = λ l e. subst (λ vs. known_by vs (flip l) ≡ true) (sym is)
      (subst (λ x. known_by (v ∷ oldest m values) x ≡ true) (sym (flip-flip v.lit) ∙ ap flip e) (value-first v (oldest m values))) in
      let at' : slice_get clause' 0 ≡ Some led.first = ap (λ c. slice_get c 0) grown ∙ front clause (flip v.lit) led.first led.at in
      elim choice [
        | inl h ↦ inr (
          record {
            first = led.first;
            at = at';
            fresh = led.fresh;
            within = let e = h.1 in omega arith;
            others = λ l i. elim (has-push clause (flip v.lit) l (subst (λ c. has c l ≡ true) grown i)) [
              | inl j ↦ inl (only clause led.first l h.0 led.at j)
              | inr j ↦ inr (subst (λ k. known_by (oldest k values) (flip l) ≡ true) (sym h.1) (pushed l j))
            ];
          },
          λ _. let e = h.1 in omega arith,
        )
        | inr h ↦
            let reach : n ≤ after = k.1 h.0 in
            inr (
              record {
                first = led.first;
                at = at';
                fresh = led.fresh;
                within = let e = h.1 in let w = led.within in omega arith;
                others = λ l i. elim (has-push clause (flip v.lit) l (subst (λ c. has c l ≡ true) grown i)) [
                  | inl j ↦ elim (led.others l j) [ inl s ↦ inl s | inr s ↦ inr (subst (λ k. known_by (oldest k values) (flip l) ≡ true) (sym h.1) s) ]
                  | inr j ↦ inr (subst (λ k. known_by (oldest k values) (flip l) ≡ true) (sym h.1) (known-oldest values (m + 1) after (flip l) (omega arith) (pushed l j)))
                ];
              },
              λ _. let e = h.1 in omega arith,
            )
      ] where
        no_first : (c : List Literal) (x : Literal) → c ≡ [] → slice_get c 0 ≡ Some x → ⊥
        no_first c x e h = let k : slice_get (let none : List Literal = [] in none) 0 ≡ Some x = ap (λ d. slice_get d 0) (sym e) ∙ h in cc

        order : (a b : ℕ) → (a ≤ b) ⊎ (b < a)
        order a b = grind arith

        front : (c : List Literal) (x y : Literal) → slice_get c 0 ≡ Some y → slice_get (c ++ x ∷ []) 0 ≡ Some y
        front [] x y h = absurd (cc)
        front (z ∷ c) x y h = h

        only : (c : List Literal) (x l : Literal) → length c ≡ 1 → slice_get c 0 ≡ Some x → has c l ≡ true → x ≡ l
        only [] x l e h i = absurd (omega arith)
        only (y ∷ []) x l e h i = let s : y ≡ x = cc in elim (has-cases y l [] i) [ inl j ↦ sym s ∙ j | inr j ↦ absurd (true≢false (sym j)) ]
        only (y ∷ z ∷ c) x l e h i = absurd (omega arith)
