-- Analysis of a conflict, value by value from the newest: each value is passed over, kept in the learned clause, or resolved.
use Rattle.std.proofs.Common.{◌≡◌, ℕ, true, false, List, [], ◌∷◌, ◌⊎◌, inl, inr, ap, sym, ◌∙◌, subst, ℤ, pos, Option, Some}
use Rattle.std.proofs.lemmas.Bool.{or_cases, or_left, or_right, both_ways, true≢false, false_from_ne_true}
use Rattle.clause_core.specs.Literal.{Literal, flip, same, has}
use Rattle.clause_core.proofs.Tools.{flip-flip, same-true, same-refl, has-first, has-rest, has-cases}
use Rattle.lrat_replay.specs.Status.{Known, with_literal, IsUnit, IsConflict}
use Rattle.lrat_replay.specs.Book.{run, Accepted, denied}
use Rattle.lrat_replay.proofs.Tools.{is-forces, is-conflict, IsConsistent, IsWithin, run-forces, run-conflict}
use Rattle.clause_solver.specs.Trail.{known_by, IsFresh}
use Rattle.clause_solver.specs.Analysis.{IsReduced}
use Rattle.clause_solver.specs.declared.value.Value.{Value}

value-cases : (e : Value) (older : List Value) (l : Literal) → known_by (e ∷ older) l ≡ true → (e.lit ≡ l) ⊎ (known_by older l ≡ true)
value-cases e older l h = elim (or_cases (same e.lit l) (known_by older l) h) [ inl k ↦ inl (same-true e.lit l k) | inr k ↦ inr k ]

pub value-first : (e : Value) (older : List Value) → known_by (e ∷ older) e.lit ≡ true
value-first e older = or_left (same e.lit e.lit) (known_by older e.lit) (same-refl e.lit)

pub value-older : (e : Value) (older : List Value) (l : Literal) → known_by older l ≡ true → known_by (e ∷ older) l ≡ true
value-older e older l h = or_right (same e.lit l) (known_by older l) h

module _ (at : ℕ → Option (List Literal)) (all : Known) (consistent : IsConsistent all) where
  -- the clause in conflict
  pub reduced_first : (trail : List Value) → IsWithin (known_by trail) all → (id : ℕ) (conflict : List Literal) → at id ≡ Some conflict → IsConflict (known_by trail) conflict →
      (seen : Known) → ((l : Literal) → has conflict l ≡ true → seen (flip l) ≡ true) → IsReduced at all trail seen [] (pos id ∷ [])
  reduced_first trail within id conflict found c seen marked = record {
    is_false = λ l m. absurd (true≢false (sym m));
    apart = λ l m. absurd (true≢false (sym m));
    accepts = λ known inside needs denies. run-conflict at known id [] conflict found (is-conflict known conflict (record {
      all = λ l m. needs (flip l) (marked l m) (c.all l m);
      none = λ l m. false_from_ne_true (known l) (λ k. elim (inside l k) [
        | inl o ↦ consistent l (within l o) (within (flip l) (c.all l m))
        | inr n ↦ true≢false (sym n)
      ]);
    }));
  }

  module _ (e : Value) (older : List Value) (within : IsWithin (known_by (e ∷ older)) all) (fresh : IsFresh (known_by older) e.lit) (seen : Known) (clause : List Literal) (hints : List ℤ) (r : IsReduced at all (e ∷ older) seen clause hints) where
    older_apart : (l : Literal) → has clause l ≡ true → known_by older (flip l) ≡ false
    older_apart l m = false_from_ne_true (known_by older (flip l)) (λ k. both_ways (known_by (e ∷ older) (flip l)) (r.apart l m) (value-older e older (flip l) k))

    wider : (known : Known) → ((x : Literal) → known x ≡ true → (known_by older x ≡ true) ⊎ (has clause (flip x) ≡ true)) → (x : Literal) → known x ≡ true → (known_by (e ∷ older) x ≡ true) ⊎ (has clause (flip x) ≡ true)
    wider known inside x k = elim (inside x k) [ inl o ↦ inl (value-older e older x o) | inr n ↦ inr n ]

    -- a value that was not seen is passed over
    pub reduced_pass : seen e.lit ≡ false → IsReduced at all older seen clause hints
    reduced_pass unseen = record {
      is_false = r.is_false;
      apart = older_apart;
      accepts = λ known inside needs denies. r.accepts known (wider known inside) (λ x s o. elim (value-cases e older x o) [
        | inl q ↦ absurd (both_ways (seen e.lit) unseen (ap seen q ∙ s))
        | inr q ↦ needs x s q
      ]) denies;
    }

    -- its complement is kept in the clause
    pub reduced_keep : IsReduced at all older seen (flip e.lit ∷ clause) hints
    reduced_keep = record {
      is_false = λ l m. elim (has-cases (flip e.lit) l clause m) [
        | inl q ↦ ap (λ x. all (flip x)) (sym q) ∙ ap all (flip-flip e.lit) ∙ within e.lit (value-first e older)
        | inr q ↦ r.is_false l q
      ];
      apart = λ l m. elim (has-cases (flip e.lit) l clause m) [
        | inl q ↦ ap (λ x. known_by older (flip x)) (sym q) ∙ ap (known_by older) (flip-flip e.lit) ∙ fresh.unknown
        | inr q ↦ older_apart l q
      ];
      accepts = λ known inside needs denies. r.accepts known
          (λ x k. elim (inside x k) [
            | inl o ↦ inl (value-older e older x o)
            | inr n ↦ elim (has-cases (flip e.lit) (flip x) clause n) [
              | inl q ↦ inl (subst (λ y. known_by (e ∷ older) y ≡ true) (sym (flip-flip e.lit) ∙ ap flip q ∙ flip-flip x) (value-first e older))
              | inr q ↦ inr q
            ]
          ])
          (λ x s o. elim (value-cases e older x o) [
            | inl q ↦ ap known (sym q ∙ sym (flip-flip e.lit)) ∙ denies (flip e.lit) (has-first (flip e.lit) clause)
            | inr q ↦ needs x s q
          ])
          (λ l m. denies l (has-rest (flip e.lit) l clause m));
    }

    -- the clause that forced it comes before the hints, and its other literals are seen
    module _ (id : ℕ) (reason : List Literal) (found : at id ≡ Some reason) (unit : IsUnit (known_by older) reason e.lit) (seen' : Known) (more : (x : Literal) → seen x ≡ true → seen' x ≡ true) (marked : (l : Literal) → has reason l ≡ true → (e.lit ≡ l) ⊎ (seen' (flip l) ≡ true)) where
      in_all : (known : Known) → ((x : Literal) → known x ≡ true → (known_by older x ≡ true) ⊎ (has clause (flip x) ≡ true)) → (x : Literal) → known x ≡ true → all x ≡ true
      in_all known inside x k = elim (inside x k) [ inl o ↦ within x (value-older e older x o) | inr n ↦ ap all (sym (flip-flip x)) ∙ r.is_false (flip x) n ]

      forced_here : (known : Known) → ((x : Literal) → known x ≡ true → (known_by older x ≡ true) ⊎ (has clause (flip x) ≡ true)) →
          ((x : Literal) → seen' x ≡ true → known_by older x ≡ true → known x ≡ true) → IsUnit known reason e.lit
      forced_here known inside needs =
          let f = unit in
          let unknown : known e.lit ≡ false = false_from_ne_true (known e.lit) (λ k. elim (inside e.lit k) [
            | inl o ↦ both_ways (known_by older e.lit) fresh.unknown o
            | inr n ↦ both_ways (known_by (e ∷ older) (flip (flip e.lit))) (r.apart (flip e.lit) n) (ap (known_by (e ∷ older)) (flip-flip e.lit) ∙ value-first e older)
          ]) in
          let others = λ (l : Literal) (m : has reason l ≡ true). other known needs l (f.others l m) (marked l m) in
          record {
            is_in = f.is_in;
            unknown = unknown;
            flip_unknown = false_from_ne_true (known (flip e.lit)) (λ k. consistent e.lit (within e.lit (value-first e older)) (in_all known inside (flip e.lit) k));
            others = others;
            none = λ l m. elim (others l m) [
              | inl q ↦ ap known (sym q) ∙ unknown
              | inr q ↦ false_from_ne_true (known l) (λ k. consistent l (in_all known inside l k) (in_all known inside (flip l) q))
            ];
          } where
            other : (known : Known) → ((x : Literal) → seen' x ≡ true → known_by older x ≡ true → known x ≡ true) → (l : Literal) → (e.lit ≡ l) ⊎ (known_by older (flip l) ≡ true) → (e.lit ≡ l) ⊎ (seen' (flip l) ≡ true) → (e.lit ≡ l) ⊎ (known (flip l) ≡ true)
            other known needs l (inl q) s = inl q
            other known needs l (inr q) (inl s) = inl s
            other known needs l (inr q) (inr s) = inr (needs (flip l) s q)

      pub reduced_resolve : IsReduced at all older seen' clause (pos id ∷ hints)
      reduced_resolve = record {
        is_false = r.is_false;
        apart = older_apart;
        accepts = λ known inside needs denies.
            run-forces at known id hints reason e.lit found (is-forces known reason e.lit (forced_here known inside needs))
            ∙ r.accepts (with_literal known e.lit)
            (λ x k. elim (or_cases (same e.lit x) (known x) k) [
              | inl q ↦ inl (or_left (same e.lit x) (known_by older x) q)
              | inr q ↦ wider known inside x q
            ])
            (λ x s o. elim (or_cases (same e.lit x) (known_by older x) o) [
              | inl q ↦ or_left (same e.lit x) (known x) q
              | inr q ↦ or_right (same e.lit x) (known x) (needs x (more x s) q)
            ])
            (λ l m. or_right (same e.lit (flip l)) (known (flip l)) (denies l m));
      }

  -- past the oldest value the learned clause is accepted
  pub reduced_end : (seen : Known) (clause : List Literal) (hints : List ℤ) → IsReduced at all [] seen clause hints → run at (denied clause) hints ≡ Accepted
  reduced_end seen clause hints r = r.accepts (denied clause) (λ x k. inr k) (λ x s o. absurd (true≢false (sym o))) (λ l m. ap (has clause) (flip-flip l) ∙ m)
